-- Triples that are sorted by ranks, and then lose their repeats, are the triples in order.
use Rattle.std.proofs.Common.{◌≡◌, ◌+◌, ◌<◌, ℕ, Bool, true, false, cond, List, [], ◌∷◌, length, get_or, refl, sym, ap, subst, ◌∙◌, arith}
use Rattle.std.specs.Cmp.{IsTotalOrder}
use Rattle.std.specs.List.{dedup, dedup_from, list_any}
use Rattle.std.specs.List.Sorted.{IsPermutation, IsSorted, IsStrictlySortedBy}
use Rattle.std.specs.Ordering.{is_lt, is_eq, eq_by_cmp, ordering_then}
use Rattle.std.specs.declared.cmp.Ordering.{Ordering}
use Rattle.std.specs.declared.cmp.Ordering.TheVariants.{Less, Equal, Greater}
use Rattle.std.proofs.lemmas.Cmp.{then_total, on_total, nat_cmp_total}
use Rattle.std.proofs.lemmas.List.{get_or-map, length-map}
use Rattle.std.proofs.lemmas.List.Elements.{All-head, All-tail, All-get_or}
use Rattle.std.proofs.lemmas.List.Filters.{All-dedup}
use Rattle.std.proofs.lemmas.List.Kept.{IsStrictlySortedBy-dedup}
use Rattle.std.proofs.lemmas.List.Sorted.{All-permutation, IsPermutation-map, list_any-IsPermutation}
use Rattle.std.proofs.lemmas.Map.Keys.{sorted_from_all_adjacent}
use Rattle.gs_model.specs.Terms.{Term}
use Rattle.gs_model.specs.Triples.{RdfTriple, triple_cmp}
use Rattle.gs_model.proofs.GraphLemmas.{same_graph, triple_total, triple_exact, any_dedup}
use Rattle.gs_triple_lists.specs.declared.lists.TripleNumbers.{TripleNumbers}
use Rattle.gs_triple_lists.specs.Kept.{triple_of_numbers, triples_of_numbers, IsTripleIn, AreTriplesIn}
use Rattle.gs_triple_lists.specs.Orders.{IsOrderOf, AreRanks, rank_cmp, has_same_ranks}

-- ranks of triples are in a total order
pub rank_total : (ranks : List ℕ) → IsTotalOrder (rank_cmp ranks)
rank_total ranks =
    then_total (on_total (λ (k : TripleNumbers). get_or ranks k.subject 0) nat_cmp_total)
    (then_total (on_total (λ (k : TripleNumbers). get_or ranks k.predicate 0) nat_cmp_total) (on_total (λ (k : TripleNumbers). get_or ranks k.object 0) nat_cmp_total))

-- any three numbers
pub no_numbers : TripleNumbers
no_numbers = record { subject = 0; predicate = 0; object = 0 }

-- triples that rise already are in order
pub rising_order : (terms : List Term) (ks : List TripleNumbers) → AreTriplesIn terms ks → IsStrictlySortedBy triple_cmp (triples_of_numbers terms ks) → IsOrderOf terms (triples_of_numbers terms ks) ks
rising_order terms ks known up = record { known = known; rising = up; graph = refl }

module _ (terms : List Term) where
  -- the triple of three numbers
  abbrev said : TripleNumbers → RdfTriple
  said k = triple_of_numbers terms k

  -- a triple that is read
  pub said_at : (ks : List TripleNumbers) (i : ℕ) (d : RdfTriple) → i < length ks → get_or (triples_of_numbers terms ks) i d ≡ said (get_or ks i no_numbers)
  said_at ks i d low = get_or-map said ks i no_numbers d low

  -- triples of which each comes before the next rise
  pub adjacent_said : (ks : List TripleNumbers) → ((k : ℕ) → k + 1 < length ks → triple_cmp (said (get_or ks k no_numbers)) (said (get_or ks (k + 1) no_numbers)) ≡ Less) → IsStrictlySortedBy triple_cmp (triples_of_numbers terms ks)
  adjacent_said ks next = sorted_from_all_adjacent triple_total (triples_of_numbers terms ks) (said no_numbers) (λ k low.
      let second : k + 1 < length ks = omega (arith, low, length-map ks said) in
      let first : k < length ks = omega (arith, second) in
      (λ i. triple_cmp (said_at ks k (said no_numbers) first i) (said_at ks (k + 1) (said no_numbers) second i)) ∙ next k second)

  -- tests that agree drop the same repeats
  dedup_said : (E : TripleNumbers → TripleNumbers → Bool) (F : RdfTriple → RdfTriple → Bool) → ((x y : TripleNumbers) → IsTripleIn terms x → IsTripleIn terms y → E x y ≡ F (said x) (said y))
      → (ks : List TripleNumbers) → AreTriplesIn terms ks → triples_of_numbers terms (dedup E ks) ≡ dedup F (triples_of_numbers terms ks)
  dedup_said E F agree [] known = refl
  dedup_said E F agree (k ∷ ks) known = after k ks (All-head (IsTripleIn terms) k ks known) (All-tail (IsTripleIn terms) k ks known)
    where
      after : (k : TripleNumbers) (xs : List TripleNumbers) → IsTripleIn terms k → AreTriplesIn terms xs → triples_of_numbers terms (dedup_from E k xs) ≡ dedup_from F (said k) (triples_of_numbers terms xs)
      after k [] g gs = refl
      after k (x ∷ xs) g gs =
          let here = All-head (IsTripleIn terms) x xs gs in
          let rest = All-tail (IsTripleIn terms) x xs gs in
          elim (E x k) as (λ b. E x k ≡ b → triples_of_numbers terms (cond b (dedup_from E k xs) (k ∷ dedup_from E x xs)) ≡ cond (F (said x) (said k)) (dedup_from F (said k) (triples_of_numbers terms xs)) (said k ∷ dedup_from F (said x) (triples_of_numbers terms xs))) [
            | true ↦ λ e. after k xs g rest ∙ ap (λ b. cond b (dedup_from F (said k) (triples_of_numbers terms xs)) (said k ∷ dedup_from F (said x) (triples_of_numbers terms xs))) (sym e ∙ agree x k here g)
            | false ↦ λ e. ap (λ ts. said k ∷ ts) (after x xs here rest) ∙ ap (λ b. cond b (dedup_from F (said k) (triples_of_numbers terms xs)) (said k ∷ dedup_from F (said x) (triples_of_numbers terms xs))) (sym e ∙ agree x k here g)
          ] refl

  -- ranks compare as triples do
  rank_said : (ranks : List ℕ) → AreRanks terms ranks → (a b : TripleNumbers) → IsTripleIn terms a → IsTripleIn terms b → rank_cmp ranks a b ≡ triple_cmp (said a) (said b)
  rank_said ranks are a b ga gb =
      let s = are a.subject b.subject ga.subject gb.subject in
      let p = are a.predicate b.predicate ga.predicate gb.predicate in
      let o = are a.object b.object ga.object gb.object in
      λ i. ordering_then (s i) (ordering_then (p i) (o i))

  -- what is sorted by ranks is sorted
  sorted_said : (ranks : List ℕ) → AreRanks terms ranks → (ks : List TripleNumbers) → AreTriplesIn terms ks → IsSorted (rank_cmp ranks) ks → IsSorted triple_cmp (triples_of_numbers terms ks)
  sorted_said ranks are ks known up k d from to =
      let long : length (triples_of_numbers terms ks) ≡ length ks = length-map ks said in
      let second : k + 1 < length ks = omega (arith, to, long) in
      let first : k < length ks = omega (arith, second) in
      let at : (i : ℕ) → i < length ks → IsTripleIn terms (get_or ks i no_numbers) = λ i low. All-get_or (IsTripleIn terms) ks i no_numbers low known in
      (λ i. is_lt (triple_cmp (said_at ks (k + 1) d second i) (said_at ks k d first i)))
      ∙ (ap is_lt (sym (rank_said ranks are (get_or ks (k + 1) no_numbers) (get_or ks k no_numbers) (at (k + 1) second) (at k first)))
      ∙ up k no_numbers from second)

-- triples that compare as equal to one pass its test alike
alike : (q x k : RdfTriple) → eq_by_cmp triple_cmp x k ≡ true → eq_by_cmp triple_cmp q x ≡ eq_by_cmp triple_cmp q k
alike q x k e = ap (λ t. eq_by_cmp triple_cmp q t) (triple_exact x k (tied (triple_cmp x k) e))
  where
    tied : (o : Ordering) → is_eq o ≡ true → o ≡ Equal
    tied Less h = absurd (cc)
    tied Equal h = refl
    tied Greater h = absurd (cc)

-- sorted triples without repeats are the triples in order
pub sorted_order :
    (terms : List Term) (ranks : List ℕ) → AreRanks terms ranks → (ks sorted run : List TripleNumbers) → AreTriplesIn terms ks → IsPermutation ks sorted → IsSorted (rank_cmp ranks) sorted → run ≡ dedup (has_same_ranks ranks) sorted
    → IsOrderOf terms (triples_of_numbers terms ks) run
sorted_order terms ranks are ks sorted run known moved up is = record {
  known = subst (AreTriplesIn terms) (sym is) (All-dedup (has_same_ranks ranks) (IsTripleIn terms) sorted all);
  rising = subst (IsStrictlySortedBy triple_cmp) (sym once) (IsStrictlySortedBy-dedup triple_total (λ x y. refl) (triples_of_numbers terms sorted) (sorted_said terms ranks are sorted all up));
  graph = same_graph (triples_of_numbers terms run) (triples_of_numbers terms ks) (λ q.
      let has = eq_by_cmp triple_cmp q in
      ap (list_any has) once ∙ (any_dedup (eq_by_cmp triple_cmp) has (alike q) (triples_of_numbers terms sorted)
      ∙ sym (list_any-IsPermutation has (triples_of_numbers terms ks) (triples_of_numbers terms sorted) (IsPermutation-map (triple_of_numbers terms) ks sorted moved))));
}
  where
    all : AreTriplesIn terms sorted
    all = All-permutation (IsTripleIn terms) ks sorted moved known

    once : triples_of_numbers terms run ≡ dedup (eq_by_cmp triple_cmp) (triples_of_numbers terms sorted)
    once = ap (triples_of_numbers terms) is ∙ dedup_said terms (has_same_ranks ranks) (eq_by_cmp triple_cmp) (λ x y gx gy. ap is_eq (rank_said terms ranks are x y gx gy)) sorted all
