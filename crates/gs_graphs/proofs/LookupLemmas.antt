-- A triple looked up among sorted ones, and a graph without some of its triples.
use Rattle.std.proofs.Common.{◌≡◌, ℕ, ◌+◌, ◌<◌, ◌≤◌, Bool, true, false, List, length, get_or, Result, Ok, Err, is_ok, nat_lt, refl, sym, ap, ◌∙◌, arith}
use Rattle.std.specs.List.Sorted.{IsSorted, IsSearchInRange, IsBinarySearchResult, IsNonDecreasingBy}
use Rattle.std.specs.Ordering.{eq_by_cmp, is_eq, is_lt, ordering_index, ordering_reverse}
use Rattle.std.specs.declared.cmp.Ordering.{Ordering}
use Rattle.std.specs.declared.cmp.Ordering.TheVariants.{Less, Equal, Greater}
use Rattle.std.proofs.lemmas.Cmp.{alike_right}
use Rattle.std.proofs.lemmas.Bool.Decides.{nat_tests}
use Rattle.std.proofs.lemmas.List.Folds.{list_any_at, list_any_none}
use Rattle.std.proofs.lemmas.List.Sorted.{IsNonDecreasingBy-from_all_adjacent}
use Rattle.gs_model.specs.Triples.{RdfTriple as Triple, triple_cmp}
use Rattle.gs_model.proofs.GraphLemmas.{triple_total}
use Rattle.gs_event.specs.Solutions.{is_among}

-- how b compares with q, where a compares with b as r says and does not come after it
rises_by : (a b q : Triple) (r s : Ordering) → triple_cmp b a ≡ r → triple_cmp b q ≡ s → is_lt r ≡ false → ordering_index (triple_cmp a q) ≤ ordering_index s
rises_by a b q Less s e f h = absurd (cc)
rises_by a b q Equal s e f h = rw (sym f, triple_total.congr b a q e) (omega arith)
rises_by a b q Greater Less e f h =
    let below : triple_cmp a b ≡ Less = triple_total.antisymm a b ∙ ap ordering_reverse e in
    rw (triple_total.trans a b q below f) (omega arith)
rises_by a b q Greater Equal e f h =
    let below : triple_cmp a b ≡ Less = triple_total.antisymm a b ∙ ap ordering_reverse e in
    rw (sym (alike_right triple_total b q a f) ∙ below) (omega arith)
rises_by a b q Greater Greater e f h = at_most (triple_cmp a q)
  where
    at_most : (o : Ordering) → ordering_index o ≤ 2
    at_most Less = omega arith
    at_most Equal = omega arith
    at_most Greater = omega arith

rises : (ts : List Triple) (q : Triple) → IsSorted triple_cmp ts → IsNonDecreasingBy (λ t. ordering_index (triple_cmp t q)) ts
rises ts q sorted = IsNonDecreasingBy-from_all_adjacent (λ t. ordering_index (triple_cmp t q)) ts (λ k d lt.
    rises_by (get_or ts k d) (get_or ts (k + 1) d) q _ _ refl refl (sorted k d (omega arith) lt))

turned : (t q : Triple) (o : Ordering) → triple_cmp t q ≡ o → eq_by_cmp triple_cmp q t ≡ is_eq (ordering_reverse o)
turned t q o e = ap is_eq (triple_total.antisymm q t ∙ ap ordering_reverse e)

below : (k i : ℕ) → nat_lt k i ≡ true → k < i
below k i e = grind (arith, nat_tests)

not_below : (k i : ℕ) → nat_lt k i ≡ false → i ≤ k
not_below k i e = grind (arith, nat_tests)

-- what a binary search among sorted triples finds
pub looked_up : (ts : List Triple) (q : Triple) (r : Result ℕ ℕ) → IsSorted triple_cmp ts → IsSearchInRange r (length ts) → IsBinarySearchResult (λ t. triple_cmp t q) ts r → is_ok r ≡ is_among ts q
looked_up ts q (Ok i) sorted within at = sym (list_any_at (eq_by_cmp triple_cmp q) ts i q within (turned (get_or ts i q) q Equal (at q)))
looked_up ts q (Err i) sorted within parts = sym (list_any_none (eq_by_cmp triple_cmp q) ts (λ k d lt. by_side k d lt (nat_lt k i) refl))
  where
    by_side : (k : ℕ) (d : Triple) → k < length ts → (b : Bool) → nat_lt k i ≡ b → eq_by_cmp triple_cmp q (get_or ts k d) ≡ false
    by_side k d lt true e = turned (get_or ts k d) q Less ((parts (rises ts q sorted)).0 k d (omega arith) (below k i e))
    by_side k d lt false e = turned (get_or ts k d) q Greater ((parts (rises ts q sorted)).1 k d (not_below k i e) lt)
