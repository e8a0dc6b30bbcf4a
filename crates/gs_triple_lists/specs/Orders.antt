-- A list's triples in the order of their lines, by ranks of its terms.
use Rattle.std.specs.Prelude.{◌≡◌, ℕ, ◌<◌, ◌≤◌, ◌^◌, Bool, List, length, slice_index}
use Rattle.std.specs.List.{All, Contains}
use Rattle.std.specs.List.Sorted.{IsSorted, IsStrictlySortedBy}
use Rattle.std.specs.Ordering.{nat_cmp, ordering_then, eq_by_cmp}
use Rattle.std.specs.declared.cmp.Ordering.{Ordering}
use Rattle.std.specs.declared.cmp.Ordering.TheVariants.{Less}
use Rattle.gs_model.specs.Terms.{Term}
use Rattle.gs_model.specs.Triples.{RdfTriple, term_cmp, triple_cmp}
use Rattle.gs_model.specs.Graphs.{graph_of}
use Rattle.gs_triple_lists.specs.declared.lists.TripleNumbers.{TripleNumbers}
use Rattle.gs_triple_lists.specs.declared.orders.Order.{Order}
use Rattle.gs_triple_lists.specs.declared.orders.Order.TheVariants.{Unknown, AsTheyCame, Apart}
use Rattle.gs_triple_lists.specs.Kept.{term_of_number, AreTriplesIn, triples_of_numbers}

-- These numbers have the triples of this list, each once, and they rise.
pub record IsOrderOf (terms : List Term) (ts : List RdfTriple) (ks : List TripleNumbers) : Type 0 where
  pub known : AreTriplesIn terms ks
  pub rising : IsStrictlySortedBy triple_cmp (triples_of_numbers terms ks)
  pub graph : graph_of (triples_of_numbers terms ks) ≡ graph_of ts

-- what a list knows of the order of its triples is so
abbrev pub IsOrdered : Order → List Term → List TripleNumbers → List TripleNumbers → Type 0
IsOrdered Unknown terms ks apart = Unit {0}
IsOrdered AsTheyCame terms ks apart = IsOrderOf terms (triples_of_numbers terms ks) ks
IsOrdered Apart terms ks apart = IsOrderOf terms (triples_of_numbers terms ks) apart

-- numbers are ordered by the texts of their terms
abbrev pub text_cmp : List Term → ℕ → ℕ → Ordering
text_cmp terms m n = term_cmp (term_of_number terms m) (term_of_number terms n)

-- the numbers of all terms, in the order of their texts
pub record AreByText (terms : List Term) (by_text : List ℕ) : Type 0 where
  pub sorted : IsSorted (text_cmp terms) by_text
  pub within : All (λ n. n < length terms) by_text
  pub all : (n : ℕ) → n < length terms → Contains by_text n
  pub few : length by_text < 2 ^ 32

-- a term's rank: how many of these numbers have a text below its own
pub record IsRankOf (terms : List Term) (by_text : List ℕ) (t : Term) (rank : ℕ) : Type 0 where
  pub below : (j : ℕ) → j < rank → j < length by_text → term_cmp (term_of_number terms (slice_index by_text j)) t ≡ Less
  pub above : (j : ℕ) → rank ≤ j → j < length by_text → term_cmp (term_of_number terms (slice_index by_text j)) t ≡ Less → ⊥

-- ranks of terms, by number, compare as their texts do
abbrev pub AreRanks : List Term → List ℕ → Type 0
AreRanks terms ranks = (m n : ℕ) → m < length terms → n < length terms → nat_cmp (slice_index ranks m) (slice_index ranks n) ≡ text_cmp terms m n

-- three numbers are ordered by their ranks
abbrev pub rank_cmp : List ℕ → TripleNumbers → TripleNumbers → Ordering
rank_cmp ranks a b = ordering_then (nat_cmp (slice_index ranks a.subject) (slice_index ranks b.subject)) (ordering_then (nat_cmp (slice_index ranks a.predicate) (slice_index ranks b.predicate)) (nat_cmp (slice_index ranks a.object) (slice_index ranks b.object)))

-- whether they have the same ranks
abbrev pub has_same_ranks : List ℕ → TripleNumbers → TripleNumbers → Bool
has_same_ranks ranks a b = eq_by_cmp (rank_cmp ranks) a b
