-- A mask that is computed lane by lane is held to a class at each of the 256 bytes.
use Rattle.std.proofs.Common.{◌≡◌, ℕ, zero, suc, ◌%◌, ◌^◌, ◌<◌, ◌≤◌, ltb, leb, Bool, true, false, not, ◌&&◌, cond, eqb, T, ◌⊎◌, inl, inr, List, [], ◌∷◌, map, length, replicate, refl, sym, ap, ap₂, subst, ◌∙◌, arith, w8, Fits, not-suc-le-zero}
use Rattle.std.proofs.lemmas.Simd.{mask_l-mod}
use Rattle.std.proofs.lemmas.List.{length-map}
use Rattle.std.proofs.lemmas.Bool.{cases_order}
use lib.Bits.{bit_or}
use lib.Lanes.{zip2, mask_l, top, Each1}

-- two tests alike
abbrev pub alike : Bool → Bool → Bool
alike true b = b
alike false b = not b

alike_is : (a b : Bool) → T (alike a b) → a ≡ b
alike_is true true h = refl
alike_is false false h = refl
alike_is true false h = absurd h
alike_is false true h = absurd h

-- a test of each number below n, by computation
abbrev pub each_below : (ℕ → Bool) → ℕ → Bool
each_below p zero = true
each_below p (suc n) = p n && each_below p n

both : (a b : Bool) → T (a && b) → T a × T b
both true b h = (tt, h)
both false b h = absurd h

one_below : (p : ℕ → Bool) (n : ℕ) → T (each_below p n) → (i : ℕ) → i < n → T (p i)
one_below p zero h i lt = absurd (not-suc-le-zero lt)
one_below p (suc n) h i lt = go (one_below p n (both (p n) (each_below p n) h).1 i) (cases_order i n)
  where
    go : (i < n → T (p i)) → (i ≡ n) ⊎ ((i < n) ⊎ (n < i)) → T (p i)
    go below (inl e) = subst (λ x. T (p x)) (sym e) (both (p n) (each_below p n) h).0
    go below (inr (inl l)) = below l
    go below (inr (inr g)) = let no : ⊥ = omega arith in absurd no

-- what a lane has after a comparison
abbrev pub where_equal : ℕ → ℕ → ℕ
where_equal a b = cond (eqb a b) 255 0

abbrev pub where_below : ℕ → ℕ → ℕ
where_below a b = cond (ltb a b) 255 0

abbrev pub where_at_most : ℕ → ℕ → ℕ
where_at_most a b = cond (leb a b) 255 0

zip2-map : (f g : ℕ → ℕ) (xs : List ℕ) → zip2 bit_or (map f xs) (map g xs) ≡ map (λ x. bit_or (f x) (g x)) xs
zip2-map f g [] = refl
zip2-map f g (x ∷ xs) = ap (λ r. bit_or (f x) (g x) ∷ r) (zip2-map f g xs)

pub either : (f g : ℕ → ℕ) (v : List ℕ) {a b : List ℕ} → a ≡ map f v → b ≡ map g v → zip2 bit_or a b ≡ map (λ x. bit_or (f x) (g x)) v
either f g v p q = ap₂ (zip2 bit_or) p q ∙ zip2-map f g v

splat_left : (h : ℕ → ℕ → ℕ) (y : ℕ) (xs : List ℕ) → zip2 h (replicate (length xs) y) xs ≡ map (h y) xs
splat_left h y [] = refl
splat_left h y (x ∷ xs) = ap (λ r. h y x ∷ r) (splat_left h y xs)

-- `simd_ge` is `simd_le` with its sides changed
pub from_splat : (h : ℕ → ℕ → ℕ) (y n : ℕ) (v : List ℕ) → length v ≡ n → zip2 h (replicate n y) v ≡ map (h y) v
from_splat h y n v long = ap (λ k. zip2 h (replicate k y) v) (sym long) ∙ splat_left h y v

each_byte : (f : ℕ → ℕ) (p : ℕ → Bool) → T (each_below (λ x. alike (top 7 (f x)) (p x)) 256) → (v : List ℕ) → Each1 (Fits w8) v → map (top 7) (map f v) ≡ map p v
each_byte f p all [] fits = refl
each_byte f p all (x ∷ xs) fits = ap₂ (λ a b. a ∷ b) (alike_is _ _ (one_below (λ y. alike (top 7 (f y)) (p y)) 256 all x fits.0.fits)) (each_byte f p all xs fits.1)

pub masked : (f : ℕ → ℕ) (p : ℕ → Bool) (v z : List ℕ) → length v ≤ 64 → Each1 (Fits w8) v → z ≡ map f v → T (each_below (λ x. alike (top 7 (f x)) (p x)) 256)
    → mask_l (map (top 7) z) % 2 ^ 64 ≡ mask_l (map p v)
masked f p v z short fits e all =
    ap (λ l. mask_l l % 2 ^ 64) (ap (map (top 7)) e ∙ each_byte f p all v fits) ∙ mask_l-mod (map p v) 64 (omega (arith, length-map v p))
