-- Numbers of terms in the order of their texts, and ranks that compare as texts do.
use Rattle.std.proofs.Common.{◌≡◌, ◌≢◌, ◌+◌, ◌-◌, ◌<◌, ◌≤◌, ◌^◌, ℕ, true, false, List, [], ◌∷◌, ◌++◌, length, slice_index, inl, inr, refl, sym, ap, subst, ◌∙◌, arith}
use Rattle.std.specs.Cmp.{IsTotalOrder, nat_cmp_is}
use Rattle.std.specs.List.{range_with_len}
use Rattle.std.specs.List.Sorted.{IsPermutation, IsSorted}
use Rattle.std.specs.Ordering.{is_lt, nat_cmp, ordering_reverse}
use Rattle.std.specs.declared.cmp.Ordering.{Ordering}
use Rattle.std.specs.declared.cmp.Ordering.TheVariants.{Less, Equal, Greater}
use Rattle.std.proofs.lemmas.Bool.{cases_lt, cases_order}
use Rattle.std.proofs.lemmas.Cmp.{on_total, nat_list_cmp_total, tied_itself}
use Rattle.std.proofs.Math.ListN.{set}
use Rattle.std.proofs.lemmas.Grind.{get_or_default_zero, get_or-set_at}
use Rattle.std.proofs.lemmas.List.{map-id, get_or-set_other}
use Rattle.std.proofs.lemmas.List.Elements.{All-from_get_or, All-get_or}
use Rattle.std.proofs.lemmas.List.FromFn.{length-range_with_len, get_or-range_with_len, map-range_with_len_more}
use Rattle.std.proofs.lemmas.List.MinMax.{ranks_by}
use Rattle.std.proofs.lemmas.List.Sorted.{All-permutation, Contains-permutation, length_permutation, sorted_far}
use Rattle.std.proofs.lemmas.Map.Lookups.{exact_bytes}
use Rattle.gs_model.specs.Terms.{Term, text_of}
use Rattle.gs_model.specs.Triples.{term_cmp}
use Rattle.gs_model.proofs.TextLemmas.{text_of-injective}
use Rattle.gs_triple_lists.specs.Kept.{term_of_number}
use Rattle.gs_triple_lists.specs.Orders.{text_cmp, AreByText, IsRankOf, AreRanks}

-- one number more
pub range_more : (n : ℕ) → range_with_len 0 n ++ n ∷ [] ≡ range_with_len 0 (n + 1)
range_more n =
    let at : 0 + n ≡ n = omega arith in
    ap (λ xs. xs ++ n ∷ []) (sym (map-id (range_with_len 0 n))) ∙ (sym (map-range_with_len_more (λ x. x) 0 n n at) ∙ map-id (range_with_len 0 (n + 1)))

-- texts are in a total order, and those that compare as equal are of one term
pub text_total : (terms : List Term) → IsTotalOrder (text_cmp terms)
text_total terms = on_total (λ (n : ℕ). text_of (term_of_number terms n)) nat_list_cmp_total

pub text_exact : (terms : List Term) (m n : ℕ) → text_cmp terms m n ≡ Equal → term_of_number terms m ≡ term_of_number terms n
text_exact terms m n e = text_of-injective _ _ (exact_bytes (text_of (term_of_number terms m)) (text_of (term_of_number terms n)) e)

-- the numbers of all terms, sorted
pub are_by_text : (terms : List Term) (sorted : List ℕ) → length terms < 2 ^ 32 → IsPermutation (range_with_len 0 (length terms)) sorted → IsSorted (text_cmp terms) sorted → AreByText terms sorted
are_by_text terms sorted few moved up = record {
  sorted = up;
  within = All-permutation (λ n. n < length terms) all sorted moved (All-from_get_or (λ n. n < length terms) all 0 (λ i low.
      let inside : i < length terms = omega (arith, low, long) in
      omega (arith, get_or-range_with_len 0 (length terms) i 0 inside, inside)));
  all = λ n low. Contains-permutation all sorted n moved (n, omega (arith, low, long), get_or-range_with_len 0 (length terms) n n low ∙ omega arith);
  few = omega (arith, few, long, length_permutation all sorted moved);
}
  where
    all : List ℕ
    all = range_with_len 0 (length terms)

    long : length all ≡ length terms
    long = length-range_with_len 0 (length terms)

-- what is not less
pub not_less : (o : Ordering) → is_lt o ≡ false → o ≡ Less → ⊥
not_less o more e = let bad : true ≡ false = sym (ap is_lt e) ∙ more in cc

-- what is not above one is below all that are above it
pub below_too : {K : Type 0} {R : K → K → Ordering} → IsTotalOrder R → (x y z : K) → is_lt (R y x) ≡ false → R y z ≡ Less → R x z ≡ Less
below_too {K} {R} o x y z up less = by_answer (R x y) refl
  where
    by_answer : (r : Ordering) → R x y ≡ r → R x z ≡ Less
    by_answer Less e = o.trans x y z e less
    by_answer Equal e = o.congr x y z e ∙ less
    by_answer Greater e = absurd (let bad : true ≡ false = sym (ap is_lt (o.antisymm y x ∙ ap ordering_reverse e)) ∙ up in cc)

-- what is neither below one nor above it
pub tied_then : {K : Type 0} {R : K → K → Ordering} → IsTotalOrder R → (x y : K) → (R x y ≡ Less → ⊥) → is_lt (R y x) ≡ false → R x y ≡ Equal
tied_then {K} {R} o x y never up = by_answer (R x y) refl
  where
    by_answer : (r : Ordering) → R x y ≡ r → R x y ≡ Equal
    by_answer Less e = absurd (never e)
    by_answer Equal e = e
    by_answer Greater e = absurd (let bad : true ≡ false = sym (ap is_lt (o.antisymm y x ∙ ap ordering_reverse e)) ∙ up in cc)

module _ (terms : List Term) (by_text : List ℕ) (are : AreByText terms by_text) where
  -- the term at a place
  abbrev term_there : ℕ → Term
  term_there j = term_of_number terms (slice_index by_text j)

  far : (i j : ℕ) → i ≤ j → j < length by_text → is_lt (text_cmp terms (slice_index by_text j) (slice_index by_text i)) ≡ false
  far i j before low = sorted_far (λ m n. is_lt (text_cmp terms m n)) (ranks_by (text_total terms) (λ n. n)) by_text are.sorted i j 0 before low

  -- the first place is a rank
  pub rank_first : (place : ℕ) → place ≡ 0 → IsRankOf terms by_text (term_of_number terms (slice_index by_text place)) 0
  rank_first place is = record {
    below = λ j less low. absurd (omega (arith, less));
    above = λ j more low. not_less _ (far place j (omega (arith, is)) low);
  }

  -- a place is a rank where the text before it is less
  pub rank_new : (place : ℕ) → 0 < place → place < length by_text → text_cmp terms (slice_index by_text (place - 1)) (slice_index by_text place) ≡ Less → IsRankOf terms by_text (term_of_number terms (slice_index by_text place)) place
  rank_new place some within less = record {
    below = λ j lower low. below_too (text_total terms) (slice_index by_text j) (slice_index by_text (place - 1)) (slice_index by_text place) (far j (place - 1) (omega (arith, lower)) (omega (arith, within))) less;
    above = λ j more low. not_less _ (far place j more low);
  }

  -- or else the rank is that of the place before it
  pub rank_kept :
      (place rank : ℕ) → 0 < place → place < length by_text → (text_cmp terms (slice_index by_text (place - 1)) (slice_index by_text place) ≡ Less → ⊥)
      → IsRankOf terms by_text (term_of_number terms (slice_index by_text (place - 1))) rank → IsRankOf terms by_text (term_of_number terms (slice_index by_text place)) rank
  rank_kept place rank some within never h =
      let tied = tied_then (text_total terms) (slice_index by_text (place - 1)) (slice_index by_text place) never (far (place - 1) place (omega (arith, some)) within) in
      subst (λ t. IsRankOf terms by_text t rank) (text_exact terms (slice_index by_text (place - 1)) (slice_index by_text place) tied) h

  -- where a number stands
  place_of : (n : ℕ) → n < length terms → (j : ℕ) × (j < length by_text) × (slice_index by_text j ≡ n)
  place_of n low =
      let there = are.all n low in
      (there.0, there.1, sym (get_or_default_zero by_text there.0 n there.1) ∙ there.2)

  -- a rank is no later than the number's place
  rank_before : (n rank : ℕ) → IsRankOf terms by_text (term_of_number terms n) rank → (j : ℕ) → j < length by_text → slice_index by_text j ≡ n → rank ≤ j
  rank_before n rank h j low is = elim (cases_lt j rank) [
    | inl less ↦ absurd (
        let own : text_cmp terms n n ≡ Less = ap (λ m. text_cmp terms m n) (sym is) ∙ h.below j less low in
        let bad : Less ≡ Equal = sym own ∙ tied_itself (text_total terms) n in
        cc
        )
    | inr more ↦ more
  ]

  -- the lesser text has the lesser rank
  rank_less : (m n r s : ℕ) → m < length terms → IsRankOf terms by_text (term_of_number terms m) r → IsRankOf terms by_text (term_of_number terms n) s → text_cmp terms m n ≡ Less → r < s
  rank_less m n r s low first second less =
      let there = place_of m low in
      let before : r ≤ there.0 = rank_before m r first there.0 there.1 there.2 in
      elim (cases_lt there.0 s) [
        | inl lower ↦ omega (arith, before, lower)
        | inr more ↦ absurd (second.above there.0 more there.1 (ap (λ k. text_cmp terms k n) there.2 ∙ less))
      ]

  -- of two ranks of one term none is less
  rank_no_less : (m n r s : ℕ) → m < length terms → IsRankOf terms by_text (term_of_number terms m) r → IsRankOf terms by_text (term_of_number terms n) s → term_of_number terms m ≡ term_of_number terms n → s ≤ r
  rank_no_less m n r s low first second same = elim (cases_lt r s) [
    | inl less ↦ absurd (
        let there = place_of m low in
        let before : r ≤ there.0 = rank_before m r first there.0 there.1 there.2 in
        let within : r < length by_text = omega (arith, before, there.1) in
        first.above r (omega arith) within (ap (λ t. term_cmp (term_there r) t) same ∙ second.below r less within)
        )
    | inr more ↦ more
  ]

  -- ranks compare as texts do
  rank_answers : (m n r s : ℕ) → m < length terms → n < length terms → IsRankOf terms by_text (term_of_number terms m) r → IsRankOf terms by_text (term_of_number terms n) s → nat_cmp r s ≡ text_cmp terms m n
  rank_answers m n r s low_m low_n first second = sym (by_answer (text_cmp terms m n) refl)
    where
      by_answer : (o : Ordering) → text_cmp terms m n ≡ o → text_cmp terms m n ≡ nat_cmp r s
      by_answer Less e = e ∙ nat_cmp_is r s Less (rank_less m n r s low_m first second e)
      by_answer Equal e =
          let same = text_exact terms m n e in
          let is : r ≡ s = omega (arith, rank_no_less m n r s low_m first second same, rank_no_less n m s r low_n second first (sym same)) in
          e ∙ nat_cmp_is r s Equal is
      by_answer Greater e = e ∙ nat_cmp_is r s Greater (rank_less n m s r low_n second first ((text_total terms).antisymm n m ∙ ap ordering_reverse e))

  -- a rank more that is written at its number
  pub ranks_more :
      (ranks : List ℕ) (place rank : ℕ) → length ranks ≡ length terms → place < length by_text
      → ((j : ℕ) → j < place → IsRankOf terms by_text (term_of_number terms (slice_index by_text j)) (slice_index ranks (slice_index by_text j)))
      → IsRankOf terms by_text (term_of_number terms (slice_index by_text place)) rank
      → (j : ℕ) → j < place + 1 → IsRankOf terms by_text (term_of_number terms (slice_index by_text j)) (slice_index (set ranks (slice_index by_text place) rank) (slice_index by_text j))
  ranks_more ranks place rank long within each own j low = elim (cases_order j place) [
    | inl e ↦ written (ap (λ k. slice_index by_text k) e)
    | inr (inl less) ↦ elim (cases_order (slice_index by_text j) (slice_index by_text place)) [
      | inl e ↦ written e
      | inr (inl l) ↦ kept less (omega (arith, l))
      | inr (inr g) ↦ kept less (omega (arith, g))
    ]
    | inr (inr more) ↦ absurd (omega (arith, low, more))
  ]
    where
      there : slice_index by_text place < length ranks
      there = omega (arith, All-get_or (λ n. n < length terms) by_text place 0 within are.within, long)

      written : slice_index by_text j ≡ slice_index by_text place → IsRankOf terms by_text (term_of_number terms (slice_index by_text j)) (slice_index (set ranks (slice_index by_text place) rank) (slice_index by_text j))
      written e =
          let is : slice_index (set ranks (slice_index by_text place) rank) (slice_index by_text j) ≡ rank = get_or-set_at ranks (slice_index by_text place) (slice_index by_text j) rank 0 e there in
          subst (λ r. IsRankOf terms by_text (term_there j) r) (sym is) (subst (λ n. IsRankOf terms by_text (term_of_number terms n) rank) (sym e) own)

      kept : j < place → slice_index by_text j ≢ slice_index by_text place → IsRankOf terms by_text (term_of_number terms (slice_index by_text j)) (slice_index (set ranks (slice_index by_text place) rank) (slice_index by_text j))
      kept less other = subst (λ r. IsRankOf terms by_text (term_there j) r) (sym (get_or-set_other ranks (slice_index by_text place) (slice_index by_text j) rank 0 other)) (each j less)

  -- ranks that were written at each number are those of all terms
  pub are_ranks : (ranks : List ℕ) → ((j : ℕ) → j < length by_text → IsRankOf terms by_text (term_of_number terms (slice_index by_text j)) (slice_index ranks (slice_index by_text j))) → AreRanks terms ranks
  are_ranks ranks each m n low_m low_n = rank_answers m n (slice_index ranks m) (slice_index ranks n) low_m low_n (own m low_m) (own n low_n)
    where
      own : (k : ℕ) → k < length terms → IsRankOf terms by_text (term_of_number terms k) (slice_index ranks k)
      own k low =
          let there = place_of k low in
          subst (λ x. IsRankOf terms by_text (term_of_number terms x) (slice_index ranks x)) there.2 (each there.0 there.1)
