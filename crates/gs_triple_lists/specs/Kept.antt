-- How a list of triples is kept: as terms, and three of their numbers for each triple.
use Rattle.std.specs.Prelude.{◌≡◌, ℕ, ◌<◌, List, [], ◌++◌, map, length, slice_get, slice_index, slice_index_or, true}
use Rattle.std.specs.List.{All}
use Rattle.gs_model.specs.Terms.{Term, Iri}
use Rattle.gs_model.specs.Triples.{RdfTriple, has_kinds}
use Rattle.gs_triple_lists.specs.declared.lists.TripleNumbers.{TripleNumbers}

-- there are these terms, and maybe more after them
pub record HasMore (old new : List Term) : Type 0 where
  pub more : List Term
  pub terms : new ≡ old ++ more

-- the triple of three terms
abbrev pub triple_of_terms : (subject predicate object : Term) → RdfTriple
triple_of_terms s p o = record { subject = s; predicate = p; object = o }

-- the term of a number, and any where no term has it
abbrev pub term_of_number : List Term → ℕ → Term
term_of_number terms n = slice_index_or terms n (Iri [])

-- the triple of three numbers
abbrev pub triple_of_numbers : List Term → TripleNumbers → RdfTriple
triple_of_numbers terms k = record {
  subject = term_of_number terms k.subject;
  predicate = term_of_number terms k.predicate;
  object = term_of_number terms k.object;
}

-- each of three numbers has a term, and the terms are of the kinds of a triple
pub record IsTripleIn (terms : List Term) (k : TripleNumbers) : Type 0 where
  pub subject : k.subject < length terms
  pub predicate : k.predicate < length terms
  pub object : k.object < length terms
  pub kinds : has_kinds (triple_of_numbers terms k) ≡ true

-- three numbers are those of a triple's terms
pub record AreNumbersOf (terms : List Term) (t : RdfTriple) (k : TripleNumbers) : Type 0 where
  pub triple : triple_of_numbers terms k ≡ t
  pub known : IsTripleIn terms k

-- each three numbers are a triple's
abbrev pub AreTriplesIn : List Term → List TripleNumbers → Type 0
AreTriplesIn terms ks = All (IsTripleIn terms) ks

-- the triples of these numbers
abbrev pub triples_of_numbers : List Term → List TripleNumbers → List RdfTriple
triples_of_numbers terms ks = map (triple_of_numbers terms) ks

-- these are numbers of these terms, each at its place
pub record AreNumbersIn (all given : List Term) (ns : List ℕ) : Type 0 where
  pub count : length ns ≡ length given
  pub terms : (n : ℕ) → n < length given → slice_get all (slice_index ns n) ≡ slice_get given n

-- three numbers are below this one
pub record AreWithin (count : ℕ) (k : TripleNumbers) : Type 0 where
  pub subject : k.subject < count
  pub predicate : k.predicate < count
  pub object : k.object < count

-- three numbers, each by what stands at its place
abbrev pub renumbered_by : List ℕ → TripleNumbers → TripleNumbers
renumbered_by ns k = record { subject = slice_index ns k.subject; predicate = slice_index ns k.predicate; object = slice_index ns k.object }
