-- Patterns of triples and their solutions (SPARQL 1.1 Query, 21 March 2013, sections 18.1.5 and 18.3), and the triples
-- that DELETE WHERE removes (SPARQL 1.1 Update, 21 March 2013, section 3.1.3.3).
use Rattle.std.specs.Prelude.{◌≡◌, ℕ, Bool, true, if◌then◌else◌, List, [], ◌∷◌, map, Option, Some, None, option_and_then}
use Rattle.std.specs.List.{list_any, list_all, flat_map}
use Rattle.std.specs.Ordering.{eq_by_cmp}
use Rattle.std.specs.Str.{bytes_eq}
use Rattle.gs_model.specs.Terms.{Term, Iri}
use Rattle.gs_model.specs.Triples.{RdfTriple, triple_cmp, term_eq}
use Rattle.gs_model.specs.Graphs.{Graph, triples_of}
use Rattle.gs_term.specs.declared.patterns.Part.{Part}
use Rattle.gs_term.specs.declared.patterns.Part.TheVariants.{Term as TheTerm, Variable}
use Rattle.gs_term.specs.declared.patterns.Pattern.{Pattern}

-- a term for each variable, by its name
abbrev pub Assignment : Type 0
Assignment = List ℕ → Term

-- the term that a part stands for
abbrev pub value_of_part : Assignment → Part → Term
value_of_part a (TheTerm t) = t
value_of_part a (Variable x) = a x

-- the instance of a pattern: each variable's term in its place
abbrev pub instance_of : Assignment → Pattern → RdfTriple
instance_of a p = record { subject = value_of_part a p.subject; predicate = value_of_part a p.predicate; object = value_of_part a p.object }

-- the triple is one of these
abbrev pub is_among : List RdfTriple → RdfTriple → Bool
is_among ts t = list_any (eq_by_cmp triple_cmp t) ts

-- Query 18.3: under a solution each pattern is in the graph. A variable may stand for a blank node too.
abbrev pub IsSolution : Graph → List Pattern → Assignment → Type 0
IsSolution g ps a = list_all (λ p. is_among (triples_of g) (instance_of a p)) ps ≡ true

-- Update 3.1.3.3: an instance of one of the patterns, under a solution of all of them
abbrev pub IsInstance : Graph → List Pattern → RdfTriple → Type 0
IsInstance g ps t = (a : Assignment) × IsSolution g ps a × (is_among (map (instance_of a) ps) t ≡ true)

-- all instances of the patterns in the graph are among these, and no other triples
pub record ListsInstances (g : Graph) (ps : List Pattern) (found : List RdfTriple) : Type 0 where
  pub sound : (t : RdfTriple) → is_among found t ≡ true → IsInstance g ps t
  pub complete : (t : RdfTriple) → IsInstance g ps t → is_among found t ≡ true

-- some variables, each with its term
abbrev pub Bindings : Type 0
Bindings = List (List ℕ × Term)

-- the term that a variable is bound to
abbrev pub term_for : Bindings → List ℕ → Option Term
term_for [] x = None
term_for (e ∷ b) x = if bytes_eq e.0 x then Some e.1 else term_for b x

-- with a variable bound to a term, which is the one that it was bound to
abbrev pub with_term : Bindings → List ℕ → Term → Option Term → Option Bindings
with_term b x t None = Some ((x, t) ∷ b)
with_term b x t (Some u) = if term_eq u t then Some b else None

-- with a part that stands for this term
abbrev pub bind : Bindings → Part → Term → Option Bindings
bind b (TheTerm u) t = if term_eq u t then Some b else None
bind b (Variable x) t = with_term b x t (term_for b x)

-- with a pattern whose instance is this triple
abbrev pub bind_triple : Bindings → Pattern → RdfTriple → Option Bindings
bind_triple b p t =
    option_and_then (λ c. option_and_then (λ d. bind d p.object t.object) (bind c p.predicate t.predicate)) (bind b p.subject t.subject)

-- these, where there are any
abbrev pub all_if : (Bindings → List Bindings) → Option Bindings → List Bindings
all_if again None = []
all_if again (Some b) = again b

-- the bindings of the patterns' variables under which each pattern is among the triples, beside those of b
abbrev pub solutions : List RdfTriple → List Pattern → Bindings → List Bindings
solutions ts [] b = b ∷ []
solutions ts (p ∷ ps) b = flat_map (λ t. all_if (solutions ts ps) (bind_triple b p t)) ts

-- the term that stands there, and else any
abbrev pub or_any : Option Term → Term
or_any None = Iri []
or_any (Some t) = t

-- the variables' terms as they are bound
abbrev pub assignment_of : Bindings → Assignment
assignment_of b x = or_any (term_for b x)

-- the instances of all patterns under all solutions
abbrev pub instances_of : Graph → List Pattern → List RdfTriple
instances_of g ps = flat_map (λ b. map (instance_of (assignment_of b)) ps) (solutions (triples_of g) ps [])
