-- What copies cost.
use Rattle.std.proofs.Common.{◌≡◌, ◌⊎◌, ℕ, ◌+◌, ◌<◌, ◌≤◌, true, false, cond, ltb, refl, ap, inl, inr, arith}
use Rattle.std.proofs.lemmas.Bool.{lt-ltb}
use Rattle.gs_tree.specs.Tree.{DifferByAtMost}
use Rattle.gs_tree.specs.Joining.{copies, joins}

pub copies_zero : (since n : ℕ) → since ≡ 0 → copies since n ≡ 0
copies_zero since n e = ap (λ s. copies s n) e

pub copies_some : (since n : ℕ) → 0 < since → copies since n ≡ n
copies_some since n h = rw (lt-ltb 0 since h)

pub copies_most : (since n : ℕ) → copies since n ≤ n
copies_most since n = elim (ltb 0 since) as (λ b. cond b n 0 ≤ n) [ true ↦ omega arith | false ↦ omega arith ]

-- what copies add up to
pub copies_add : (since a b : ℕ) → copies since (a + b) ≡ copies since a + copies since b
copies_add since a b = elim (ltb 0 since) as (λ t. cond t (a + b) 0 ≡ cond t a 0 + cond t b 0) [ true ↦ refl | false ↦ refl ]

pub copies_mono : (since a b : ℕ) → a ≤ b → copies since a ≤ copies since b
copies_mono since a b h = elim (ltb 0 since) as (λ t. cond t a 0 ≤ cond t b 0) [ true ↦ h | false ↦ omega arith ]

-- what a join of trees two levels apart costs
pub joins_two : (since l r : ℕ) → (l ≡ r + 2) ⊎ (r ≡ l + 2) → copies since 2 ≡ copies since (joins l r)
joins_two since l r h = ap (copies since) (elim h [ inl e ↦ two_left l r e | inr e ↦ two_right l r e ])
  where
    two_left : (l r : ℕ) → l ≡ r + 2 → 2 ≡ joins l r
    two_left l r e = omega arith

    two_right : (l r : ℕ) → r ≡ l + 2 → 2 ≡ joins l r
    two_right l r e = omega arith

pub joins_near : (since l r : ℕ) → DifferByAtMost 2 l r → copies since (joins l r) ≤ copies since 2
joins_near since l r h = copies_mono since _ _ (near l r h.0 h.1)
  where
    near : (l r : ℕ) → l ≤ r + 2 → r ≤ l + 2 → joins l r ≤ 2
    near l r a b = omega arith

-- one level of a join: the join below, a copy and what settles
pub joins_level : (since l x r : ℕ) → r + 2 < l → x + 1 ≤ l → l ≤ x + 2 → copies since (joins x r) + copies since 1 + copies since 2 ≤ copies since (joins l r)
joins_level since l x r high low near =
    omega (arith, copies_add since (joins x r) 3, copies_add since 1 2, copies_mono since (joins x r + 3) (joins l r) (level l x r high low near))
  where
    level : (l x r : ℕ) → r + 2 < l → x + 1 ≤ l → l ≤ x + 2 → joins x r + 3 ≤ joins l r
    level l x r high low near = omega arith

pub joins_flip : (l r : ℕ) → joins l r ≡ joins r l
joins_flip l r = omega arith
