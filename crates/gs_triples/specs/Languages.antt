-- What a grammar makes of Turtle's triples, and what may stand in them: Turtle (25 February 2014), and the operations of
-- SPARQL 1.1 Update (21 March 2013) that give or match triples.
use Rattle.std.specs.Prelude.{ℕ, Bool, true, false, if◌then◌else◌, List, Option, Some, None}
use Rattle.std.specs.Str.{is_utf8}
use Rattle.gs_model.specs.Terms.{Term}
use Rattle.gs_model.specs.Triples.{RdfTriple}
use Rattle.gs_term.specs.declared.patterns.Part.{Part}
use Rattle.gs_term.specs.declared.patterns.Part.TheVariants.{Term as TheTerm, Variable}
use Rattle.gs_term.specs.declared.patterns.Pattern.{Pattern}

-- what triples are made of, and what may stand in them
pub record Language (Value Triple : Type 0) : Type 0 where
  -- what an IRI, a literal or a blank node means
  pub of_term : Term → Value
  -- what a variable of this name means, where variables may stand
  pub variable : List ℕ → Option Value
  -- subject, predicate and object
  pub triple : Value → Value → Value → Triple
  -- labels, brackets, and collections with an object may stand
  pub nodes : Bool
  -- a collection with an object may stand alone
  pub lone_lists : Bool

-- 2.1: subject, predicate and object
abbrev pub triple : Term → Term → Term → RdfTriple
triple s p o = record { subject = s; predicate = p; object = o }

-- Turtle's: the terms and the triples of RDF, without variables
abbrev pub of_terms : Language Term RdfTriple
of_terms = record { of_term = λ t. t; variable = λ x. None; triple = triple; nodes = true; lone_lists = false }

-- SPARQL 1.1 Query (21 March 2013), section 18.1.5: subject, predicate and object, of which each may be a variable
abbrev pub pattern : Part → Part → Part → Pattern
pattern s p o = record { subject = s; predicate = p; object = o }

-- a variable of this name, which is text
abbrev pub part_named : List ℕ → Option Part
part_named x = if is_utf8 x then Some (Variable x) else None

-- those of a query's groups (section 19.8): terms, and variables at every place
abbrev pub of_patterns : Language Part Pattern
of_patterns = record { of_term = TheTerm; variable = part_named; triple = pattern; nodes = true; lone_lists = true }
