-- Lists of keys that rise, without a key.
use Rattle.std.proofs.Common.{◌≡◌, ◌≢◌, ◌+◌, length, arith, List, [], ◌∷◌, ◌++◌, refl, sym, ap, ◌∙◌, inl, inr}
use Rattle.std.specs.declared.cmp.Ordering.{Ordering}
use Rattle.std.specs.declared.cmp.Ordering.TheVariants.{Less, Equal, Greater}
use Rattle.std.specs.Cmp.{IsTotalOrder}
use Rattle.gs_pool.specs.declared.nodes.Key.{Key}
use Rattle.gs_tree.specs.Keys.{AllKeys, IsRising, HasKey, remove_key, remove_by}
use Rattle.gs_tree.proofs.Order.{all_middle, above, below}

module _ (cmp : Key → Key → Ordering) (total : IsTotalOrder cmp) where
  pub remove_left : (x k : Key) (l r : List Key) → cmp x k ≡ Less → remove_key cmp x (l ++ k ∷ r) ≡ remove_key cmp x l ++ k ∷ r
  remove_left x k [] r h = ap (λ o. remove_by o k r (remove_key cmp x r)) h
  remove_left x k (y ∷ t) r h = ap (remove_by (cmp x y) y (t ++ k ∷ r)) (remove_left x k t r h) ∙ by_answer (cmp x y)
    where
      by_answer : (o : Ordering) → remove_by o y (t ++ k ∷ r) (remove_key cmp x t ++ k ∷ r) ≡ remove_by o y t (remove_key cmp x t) ++ k ∷ r
      by_answer Less = refl
      by_answer Equal = refl
      by_answer Greater = refl

  pub remove_right : (x k : Key) (l r : List Key) → cmp x k ≡ Greater → IsRising cmp (l ++ k ∷ r) → remove_key cmp x (l ++ k ∷ r) ≡ l ++ k ∷ remove_key cmp x r
  remove_right x k [] r h s = ap (λ o. remove_by o k r (remove_key cmp x r)) h
  remove_right x k (y ∷ t) r h s =
      let low : cmp y k ≡ Less = all_middle (λ z. cmp y z ≡ Less) t k r s.0 in
      let up : cmp x y ≡ Greater = below cmp total y x (total.trans y k x low (above cmp total x k h)) in
      ap (λ o. remove_by o y (t ++ k ∷ r) (remove_key cmp x (t ++ k ∷ r))) up ∙ ap (λ z. y ∷ z) (remove_right x k t r h s.1)

  pub remove_here : (x k : Key) (l r : List Key) → cmp x k ≡ Equal → IsRising cmp (l ++ k ∷ r) → remove_key cmp x (l ++ k ∷ r) ≡ l ++ r
  remove_here x k [] r h s = ap (λ o. remove_by o k r (remove_key cmp x r)) h
  remove_here x k (y ∷ t) r h s =
      let low : cmp y k ≡ Less = all_middle (λ z. cmp y z ≡ Less) t k r s.0 in
      ap (λ o. remove_by o y (t ++ k ∷ r) (remove_key cmp x (t ++ k ∷ r))) (total.congr x k y h ∙ below cmp total y k low) ∙ ap (λ z. y ∷ z) (remove_here x k t r h s.1)

  none_above : (x k : Key) (r : List Key) → cmp x k ≡ Less → AllKeys (λ y. cmp k y ≡ Less) r → HasKey cmp x r → ⊥
  none_above x k [] h a p = p
  none_above x k (y ∷ r) h a p = elim p [
    | inl e ↦ let less = total.trans x k y h a.0 in let bad : Less ≡ Equal = sym less ∙ e in cc
    | inr q ↦ none_above x k r h a.1 q
  ]

  pub has_left : (x k : Key) (l r : List Key) → cmp x k ≡ Less → IsRising cmp (l ++ k ∷ r) → HasKey cmp x (l ++ k ∷ r) → HasKey cmp x l
  has_left x k [] r h s p = elim p [
    | inl e ↦ absurd (let bad : Less ≡ Equal = sym h ∙ e in cc)
    | inr q ↦ absurd (none_above x k r h s.0 q)
  ]
  has_left x k (y ∷ t) r h s p = elim p [ inl e ↦ inl e | inr q ↦ inr (has_left x k t r h s.1 q) ]

  pub has_right : (x k : Key) (l r : List Key) → cmp x k ≡ Greater → IsRising cmp (l ++ k ∷ r) → HasKey cmp x (l ++ k ∷ r) → HasKey cmp x r
  has_right x k [] r h s p = elim p [
    | inl e ↦ absurd (let bad : Greater ≡ Equal = sym h ∙ e in cc)
    | inr q ↦ q
  ]
  has_right x k (y ∷ t) r h s p =
      let low : cmp y k ≡ Less = all_middle (λ z. cmp y z ≡ Less) t k r s.0 in
      let up : cmp x y ≡ Greater = below cmp total y x (total.trans y k x low (above cmp total x k h)) in
      elim p [
        | inl e ↦ absurd (let bad : Greater ≡ Equal = sym up ∙ e in cc)
        | inr q ↦ has_right x k t r h s.1 q
      ]

  all_remove : (P : Key → Type 0) (x : Key) (t : List Key) → AllKeys P t → AllKeys P (remove_key cmp x t)
  all_remove P x [] a = tt
  all_remove P x (y ∷ t) a = by_answer (cmp x y) (all_remove P x t a.1)
    where
      by_answer : (o : Ordering) → AllKeys P (remove_key cmp x t) → AllKeys P (remove_by o y t (remove_key cmp x t))
      by_answer Less rest = a
      by_answer Equal rest = a.1
      by_answer Greater rest = (a.0, rest)

  pub rising_remove : (x : Key) (t : List Key) → IsRising cmp t → IsRising cmp (remove_key cmp x t)
  rising_remove x [] s = tt
  rising_remove x (y ∷ t) s = by_answer (cmp x y) (rising_remove x t s.1)
    where
      by_answer : (o : Ordering) → IsRising cmp (remove_key cmp x t) → IsRising cmp (remove_by o y t (remove_key cmp x t))
      by_answer Less rest = s
      by_answer Equal rest = s.1
      by_answer Greater rest = (all_remove (λ z. cmp y z ≡ Less) x t s.0, rest)

  -- a key that is there is taken out once
  pub length_remove : (x : Key) (t : List Key) → IsRising cmp t → HasKey cmp x t → length (remove_key cmp x t) + 1 ≡ length t
  length_remove x [] s p = absurd p
  length_remove x (y ∷ t) s p = by_answer (cmp x y) refl (length_remove x t s.1)
    where
      later : cmp x y ≢ Equal → HasKey cmp x t
      later ne = elim p [ inl e ↦ absurd (ne e) | inr q ↦ q ]

      by_answer : (o : Ordering) → cmp x y ≡ o → (HasKey cmp x t → length (remove_key cmp x t) + 1 ≡ length t) → length (remove_by o y t (remove_key cmp x t)) + 1 ≡ length (y ∷ t)
      by_answer Less e below_it = absurd (none_above x y t e s.0 (later (λ f. let bad : Less ≡ Equal = sym e ∙ f in cc)))
      by_answer Equal e below_it = omega arith
      by_answer Greater e below_it = omega (arith, below_it (later (λ f. let bad : Greater ≡ Equal = sym e ∙ f in cc)))
