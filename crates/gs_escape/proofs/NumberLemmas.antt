-- The number of hexadecimal digits, and its bound.
use Rattle.std.proofs.Common.{◌≡◌, ℕ, cond, ◌+◌, ◌*◌, ◌^◌, ◌<◌, ◌≤◌, List, [], length, take, get_or, refl, sym, ap, ◌∙◌, arith, true, false, ◌&&◌}
use Rattle.std.specs.Prelude.{Bool, Option, Some, None, if◌then◌else◌}
use Rattle.std.specs.Char.{digit_value}
use Rattle.std.proofs.Math.Nat.{pow-le-pow_right}
use Rattle.std.proofs.lemmas.Grind.{pow_more}
use Rattle.std.proofs.lemmas.List.Sums.{fold_more}
use Rattle.std.proofs.lemmas.Bool.Decides.{nat_tests}
use Rattle.std.specs.List.{list_all}
use Rattle.std.proofs.lemmas.List.Folds.{list_all_more, list_all_at}
use Rattle.gs_model.specs.Escapes.{is_hex, hex_number}

pub hex_number-nil : hex_number [] ≡ 0
unfolding hex_number
hex_number-nil = refl

-- one digit more
pub hex_number-more : (ds : List ℕ) (i : ℕ) → i < length ds → hex_number (take (i + 1) ds) ≡ hex_number (take i ds) * 16 + digit_value (get_or ds i 0)
unfolding hex_number
hex_number-more ds i h = fold_more (λ v d. v * 16 + digit_value d) 0 ds i 0 h

-- one digit more keeps the bound
pub bound_more : (v d n : ℕ) → v < 16 ^ n → d < 16 → v * 16 + d < 16 ^ (n + 1)
bound_more v d n h k = let e : 16 ^ (n + 1) ≡ 16 ^ n * 16 = pow_more 16 n in omega (arith, e)

-- fewer than eight digits leave room for one more
pub bound_room : (v n : ℕ) → v < 16 ^ n → n < 8 → v < 2 ^ 28
bound_room v n h k =
    let m : n ≤ 7 = omega arith in
    let p : 0 < 16 = omega arith in
    let q : 16 ^ n ≤ 16 ^ 7 = pow-le-pow_right p m in
    omega (arith, q)

-- a byte that has a value as a digit, and one that has none
pub digit_some : (c d : ℕ) → Some d ≡ (if is_hex c then Some (digit_value c) else None) → (is_hex c ≡ true) × (d ≡ digit_value c)
digit_some c d h = by_test (is_hex c) refl
  where
    by_test : (b : Bool) → is_hex c ≡ b → (is_hex c ≡ true) × (d ≡ digit_value c)
    by_test true e = let k : Some d ≡ Some (digit_value c) = h ∙ ap (λ b. cond b (Some (digit_value c)) None) e in (e, let p : d ≡ digit_value c = cc in p)
    by_test false e = let k : Some d ≡ None = h ∙ ap (λ b. cond b (Some (digit_value c)) None) e in absurd (cc)

pub digit_none : (c : ℕ) → None ≡ (if is_hex c then Some (digit_value c) else None) → is_hex c ≡ false
digit_none c h = by_test (is_hex c) refl
  where
    by_test : (b : Bool) → is_hex c ≡ b → is_hex c ≡ false
    by_test true e = let k : None ≡ Some (digit_value c) = h ∙ ap (λ b. cond b (Some (digit_value c)) None) e in absurd (cc)
    by_test false e = e

pub digit_small : (c : ℕ) → is_hex c ≡ true → digit_value c < 16
digit_small c h = grind (arith, nat_tests)

-- one digit more, and one byte that is none
pub all_more : (ds : List ℕ) (i c : ℕ) → i < length ds → c ≡ get_or ds i 0 → is_hex c ≡ true → list_all is_hex (take i ds) ≡ true → list_all is_hex (take (i + 1) ds) ≡ true
all_more ds i c h e l k = list_all_more is_hex ds i 0 h ∙ ap (λ b. b && is_hex (get_or ds i 0)) k ∙ sym (ap is_hex e) ∙ l

pub all_not : (ds : List ℕ) (i c : ℕ) → i < length ds → c ≡ get_or ds i 0 → is_hex c ≡ false → list_all is_hex ds ≡ false
all_not ds i c h e l = list_all_at is_hex ds i 0 h (sym (ap is_hex e) ∙ l)
