-- How high a balanced tree is.
use Rattle.std.proofs.Common.{◌≡◌, ◌⊎◌, ℕ, zero, suc, ◌+◌, ◌*◌, ◌^◌, ◌<◌, ◌≤◌, max, refl, ap, arith, inl, inr, ◌∷◌, length, length-append}
use native.Mathlib.Numerals.{unary_clauses}
use Rattle.std.proofs.lemmas.Bool.{cases_lt}
use Rattle.gs_tree.specs.Tree.{Tree, leaf, fork, height, keys, IsBalanced}
use Rattle.gs_tree.specs.Joining.{IsHeightAfter}

abbrev pub size : Tree → ℕ
size leaf = 0
size (fork id birth l k r) = size l + size r + 1

-- a tree has as many keys as nodes
pub size-keys : (t : Tree) → length (keys t) ≡ size t
size-keys leaf = refl
size-keys (fork id birth l k r) = omega (arith, length-append (keys l) (k ∷ keys r), size-keys l, size-keys r)

-- a tree is no higher than it has nodes
pub height_size : (t : Tree) → height t ≤ size t
height_size leaf = omega arith
height_size (fork id birth l k r) = omega (arith, height_size l, height_size r)

-- the least number of nodes at a height
abbrev pub least : ℕ → ℕ
least zero = 0
least (suc zero) = 1
least (suc (suc n)) = least n + least (suc n) + 1

least-grows : (n : ℕ) → least n ≤ least (suc n)
least-grows zero = omega arith
least-grows (suc n) = omega arith

least_mono : (n m : ℕ) → n ≤ m → least n ≤ least m
least_mono n zero h = let e : n ≡ 0 = omega arith in omega (arith, ap least e)
least_mono n (suc m) h = elim (Rattle.std.proofs.lemmas.Bool.cases_lt m n) [
  | inl above ↦ let e : n ≡ suc m = omega arith in omega (arith, ap least e)
  | inr below ↦ omega (arith, least_mono n m below, least-grows m)
]

-- a balanced tree has at least so many nodes
pub least_size : (t : Tree) (h : ℕ) → height t ≡ h → IsBalanced t → least h ≤ size t
least_size leaf zero e b = omega arith
least_size leaf (suc h) e b = omega arith
least_size (fork id birth l k r) zero e b = omega arith
least_size (fork id birth l k r) (suc zero) e b = omega arith
least_size (fork id birth l k r) (suc (suc h)) e b =
    let n0 : height l ≤ height r + 1 = b.0.0 in
    let n1 : height r ≤ height l + 1 = b.0.1 in
    let top : max (height l) (height r) ≡ suc h = omega arith in
    elim (sides (height l) (height r) n0 n1 top) [
      | inl s ↦ omega (arith, least_size l (suc h) s.0 b.1, least_mono h (height r) s.1, least_size r (height r) refl b.2)
      | inr s ↦ omega (arith, least_size r (suc h) s.0 b.2, least_mono h (height l) s.1, least_size l (height l) refl b.1)
    ]
  where
    sides : (a c : ℕ) → a ≤ c + 1 → c ≤ a + 1 → max a c ≡ suc h → ((a ≡ suc h) × (h ≤ c)) ⊎ ((c ≡ suc h) × (h ≤ a))
    sides a c n0 n1 top = elim (Rattle.std.proofs.lemmas.Bool.cases_lt a c) [ inl lt ↦ inr (omega arith, omega arith) | inr ge ↦ inl (omega arith, omega arith) ]

-- a tree twice as high as a power's exponent has that power's number of nodes, less one
pub least_power : (n : ℕ) → 2 ^ n ≤ least (n + n) + 1
least_power zero = omega arith
least_power (suc n) =
    let e : suc n + suc n ≡ suc (suc (n + n)) = omega arith in
    let p : 2 ^ suc n ≡ 2 * 2 ^ n = simp unary_clauses (omega arith) in
    omega (arith, ap least e, p, least_power n, least-grows (n + n))

-- height below twice the digits
pub height_digits : (t : Tree) (d : ℕ) → IsBalanced t → size t < 2 ^ d → height t ≤ d + d
height_digits t d b h = elim (Rattle.std.proofs.lemmas.Bool.cases_lt (d + d) (height t)) [
  | inr le ↦ le
  | inl high ↦ omega (arith, least_size t (height t) refl b, least_mono (suc (d + d)) (height t) high, least_more d, least_power d)
]
  where
    least_more : (d : ℕ) → least (d + d) + 1 ≤ least (suc (d + d))
    least_more zero = omega arith
    least_more (suc n) = let e : suc n + suc n ≡ suc (suc (n + n)) = omega arith in let f = least-grows (n + n) in omega (arith, ap least e, ap (λ m. least (suc m)) e, pos (n + n))
      where
        pos : (m : ℕ) → 1 ≤ least (suc m)
        pos zero = omega arith
        pos (suc m) = omega arith

-- a tree whose side fell by one level at most is one lower at most
pub shrunk : (l l' r n : ℕ) → l ≤ r + 1 → r ≤ l + 1 → l' ≤ l → l ≤ l' + 1 → IsHeightAfter l' r n → (n ≤ max l r + 1) × (max l r ≤ n)
shrunk l l' r n a b c d h =
    let h0 : max l' r ≤ n = h.0 in
    let h1 : n ≤ max l' r + 1 = h.1 in
    elim (cases_lt r l) [
      | inl high ↦ elim (cases_lt r l') [
        | inl still ↦ (omega arith, omega arith)
        | inr fell ↦ let e = h.2 (omega arith, omega arith) in (omega arith, omega arith)
      ]
      | inr low ↦ (omega arith, omega arith)
    ]
