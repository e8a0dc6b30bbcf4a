-- How many elements of a list pass a test that what stands past its end fails.
use Rattle.std.proofs.Common.{◌≡◌, ℕ, zero, suc, ◌+◌, Bool, true, false, cond, List, [], ◌∷◌, get_or, count_by, refl, sym, ap, ◌∙◌, arith}
use Rattle.std.proofs.lemmas.List.Sums.{sum_by-cons}

module _ {A : Type 0} (test : A → Bool) (d : A) (past : test d ≡ false) where
  -- 1 for an element that passes
  abbrev weight : A → ℕ
  weight x = cond (test x) 1 0

  weight_none : (x : A) → test x ≡ false → weight x ≡ 0
  weight_none x h = ap (λ b. cond b 1 0) h

  weight_some : (b : Bool) → (let w : ℕ = cond b 1 0 in w) ≡ 0 → b ≡ false
  weight_some true h = absurd (omega arith)
  weight_some false h = refl

  cut : (x : A) (xs : List A) → count_by test (x ∷ xs) ≡ weight x + count_by test xs
  cut x xs = sum_by-cons (λ y. cond (test y) 1 0) x xs

  -- none passes
  pub count_none : (xs : List A) → ((i : ℕ) → test (get_or xs i d) ≡ false) → count_by test xs ≡ 0
  count_none [] h = refl
  count_none (x ∷ xs) h = omega (arith, cut x xs, weight_none x (h 0), count_none xs (λ i. h (suc i)))

  pub none_counted : (xs : List A) → count_by test xs ≡ 0 → (i : ℕ) → test (get_or xs i d) ≡ false
  none_counted [] h i = past
  none_counted (x ∷ xs) h zero = weight_some (test x) (omega (arith, cut x xs))
  none_counted (x ∷ xs) h (suc i) = none_counted xs (omega (arith, cut x xs)) i

  -- two lists that pass at the same places
  pub count_same : (xs ys : List A) → ((i : ℕ) → test (get_or xs i d) ≡ test (get_or ys i d)) → count_by test xs ≡ count_by test ys
  count_same [] ys h = sym (count_none ys (λ i. sym (h i) ∙ past))
  count_same (x ∷ xs) [] h = count_none (x ∷ xs) (λ i. h i ∙ past)
  count_same (x ∷ xs) (y ∷ ys) h =
      let top : weight x ≡ weight y = ap (λ b. cond b 1 0) (h 0) in
      omega (arith, cut x xs, cut y ys, top, count_same xs ys (λ i. h (suc i)))
