-- A run of bytes of a class, seen sixteen at a time through the mask of those outside.
use Rattle.std.proofs.Common.{◌≡◌, ℕ, suc, ◌+◌, ◌*◌, ◌<◌, ◌≤◌, Bool, true, false, not, cond, eqb, ◌&&◌, List, [], ◌∷◌, map, length, take, drop, refl, sym, ap, ap₂, ◌∙◌, arith}
use Rattle.std.proofs.lemmas.Simd.{chunk-drop, length-chunk, leading_from_mask_l, trailing_mask_l}
use Rattle.std.proofs.lemmas.List.{length-drop}
use Rattle.std.proofs.lemmas.List.Folds.{prefix_len-append}
use Rattle.std.proofs.lemmas.List.Sums.{prefix_len-le-length}
use Rattle.std.proofs.lemmas.Bool.{eq-eqb, ne_eqb}
use Rattle.std.specs.List.{list_all, prefix_len}
use lib.Lanes.{chunk, mask_l}
use lib.Count.{count_trailing_zeros}
use Rattle.gs_ntterm.specs.Runs.{outside}

pub run_bound : (q : ℕ → Bool) (d : List ℕ) (i : ℕ) → i ≤ length d → i + prefix_len q (drop i d) ≤ length d
run_bound q d i h = omega (arith, prefix_len-le-length q (drop i d), length-drop i d)

-- the front that a class goes through has the class alone
pub run_all : (q : ℕ → Bool) (d : List ℕ) → list_all q (take (prefix_len q d) d) ≡ true
run_all q [] = refl
run_all q (x ∷ xs) = by_first (q x) refl (run_all q xs)
  where
    by_first : (b : Bool) → q x ≡ b → list_all q (take (prefix_len q xs) xs) ≡ true → list_all q (take (cond b (1 + prefix_len q xs) 0) (x ∷ xs)) ≡ true
    by_first true e h =
        let one : 1 + prefix_len q xs ≡ suc (prefix_len q xs) = omega arith in
        ap (λ n. list_all q (take n (x ∷ xs))) one ∙ ap (λ v. v && list_all q (take (prefix_len q xs) xs)) e ∙ h
    by_first false e h = refl

module _ (q : ℕ → Bool) where
  abbrev stop : ℕ → Bool
  stop = outside q

  back : (b : Bool) → b ≡ not (not b)
  back true = refl
  back false = refl

  same_run : (xs : List ℕ) → prefix_len q xs ≡ prefix_len (λ x. not (stop x)) xs
  same_run [] = refl
  same_run (x ∷ xs) = ap₂ (λ b n. cond b (1 + n) 0) (back (q x)) (same_run xs)

  split : (d : List ℕ) (i n : ℕ) → prefix_len q (drop i d) ≡ cond (eqb (prefix_len q (chunk i n d)) (length (chunk i n d))) (length (chunk i n d) + prefix_len q (drop (i + n) d)) (prefix_len q (chunk i n d))
  split d i n = ap (prefix_len q) (chunk-drop i n d) ∙ prefix_len-append q (chunk i n d) (drop (i + n) d)

  none_fails : (b : Bool) (n l m : ℕ) → n ≤ l → cond (not (not b)) (1 + n) 0 ≡ 1 + l → (n ≡ l → m ≡ 0) → cond (not b) 1 0 + 2 * m ≡ 0
  none_fails false n l m le e ih = let no : ⊥ = omega arith in absurd no
  none_fails true n l m le e ih = let z = ih (omega arith) in omega arith

  all_pass : (xs : List ℕ) → prefix_len (λ x. not (stop x)) xs ≡ length xs → mask_l (map stop xs) ≡ 0
  all_pass [] e = refl
  all_pass (x ∷ xs) e = none_fails (q x) _ (length xs) _ (prefix_len-le-length (λ y. not (stop y)) xs) (omega arith) (all_pass xs)

  pub run_through : (d : List ℕ) (i n : ℕ) → i + n ≤ length d → mask_l (map stop (chunk i n d)) ≡ 0 → prefix_len q (drop i d) ≡ n + prefix_len q (drop (i + n) d)
  run_through d i n room none =
      let c = chunk i n d in
      split d i n ∙ ap (λ b. cond b (length c + prefix_len q (drop (i + n) d)) (prefix_len q c)) (eq-eqb _ _ (same_run c ∙ leading_from_mask_l stop c none))
      ∙ ap (λ k. k + prefix_len q (drop (i + n) d)) (length-chunk i n d room)

  pub run_stops : (d : List ℕ) (i n : ℕ) → i + n ≤ length d → n ≤ 64 → 0 < mask_l (map stop (chunk i n d)) → prefix_len q (drop i d) ≡ count_trailing_zeros 64 (mask_l (map stop (chunk i n d)))
  run_stops d i n room short some =
      let c = chunk i n d in
      split d i n ∙ ap (λ b. cond b (length c + prefix_len q (drop (i + n) d)) (prefix_len q c)) (ne_eqb _ _ (λ (e : prefix_len q c ≡ length c). omega (arith, all_pass c (sym (same_run c) ∙ e))))
      ∙ same_run c ∙ sym (trailing_mask_l stop 64 c (omega (arith, length-chunk i n d room)) some)
