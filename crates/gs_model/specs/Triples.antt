-- Triples (RDF 1.1 Concepts, section 3.1), their order and their lines (N-Triples, section 2).
use Rattle.std.specs.Prelude.{◌≡◌, ℕ, Bool, true, false, ◌&&◌, List, [], ◌∷◌, ◌++◌}
use Rattle.std.specs.Str.{bytes_eq}
use Rattle.std.specs.Ordering.{ordering_then, nat_cmp}
use Rattle.std.specs.Cmp.Lexicographic.{slice_cmp}
use Rattle.std.specs.declared.cmp.Ordering.{Ordering}
use Rattle.gs_model.specs.Characters.{line_feed, space, dot}
use Rattle.gs_model.specs.Terms.{Term, Iri, Blank, Literal, text_of, IsTerm}

-- what a triple says: its three terms, of any kinds
pub record RdfTriple : Type 0 where
  pub subject : Term
  pub predicate : Term
  pub object : Term

-- the term is an IRI
abbrev pub is_iri : Term → Bool
is_iri (Iri text) = true
is_iri (Blank r k) = false
is_iri (Literal lexical kind) = false

-- the term is an IRI or a blank node
abbrev pub is_subject : Term → Bool
is_subject (Iri text) = true
is_subject (Blank r k) = true
is_subject (Literal lexical kind) = false

-- the subject is an IRI or a blank node, and the predicate is an IRI
abbrev pub has_kinds : RdfTriple → Bool
has_kinds t = is_subject t.subject && is_iri t.predicate

-- a triple
pub record IsTriple (t : RdfTriple) : Type 0 where
  pub kinds : has_kinds t ≡ true
  pub subject_is : IsTerm t.subject
  pub predicate_is : IsTerm t.predicate
  pub object_is : IsTerm t.object

-- terms are ordered by the bytes of their texts
abbrev pub term_cmp : Term → Term → Ordering
term_cmp t u = slice_cmp nat_cmp (text_of t) (text_of u)

-- two terms are equal where their texts are
abbrev pub term_eq : Term → Term → Bool
term_eq t u = bytes_eq (text_of t) (text_of u)

-- triples are ordered by subject, then predicate, then object
abbrev pub triple_cmp : RdfTriple → RdfTriple → Ordering
triple_cmp t u = ordering_then (term_cmp t.subject u.subject) (ordering_then (term_cmp t.predicate u.predicate) (term_cmp t.object u.object))

-- the canonical line: three texts, each with a space after it, a dot and a line feed
abbrev pub line_of : RdfTriple → List ℕ
line_of t = text_of t.subject ++ space ∷ text_of t.predicate ++ space ∷ text_of t.object ++ space ∷ dot ∷ line_feed ∷ []
