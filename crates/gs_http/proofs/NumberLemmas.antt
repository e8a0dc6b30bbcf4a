-- A number read digit by digit.
use Rattle.std.proofs.Common.{◌≡◌, ℕ, ◌+◌, ◌-◌, ◌*◌, ◌^◌, ◌<◌, ◌≤◌, min, true, List, [], ◌∷◌, ◌++◌, length, take, get_or, refl, ap, ◌∙◌, arith}
use Rattle.std.specs.List.{list_all}
use Rattle.std.specs.Char.{is_ascii_digit, digit_value}
use Rattle.std.specs.Str.Parse.{digits_value, digits_value_after}
use Rattle.std.proofs.lemmas.List.{take_more}
use Rattle.std.proofs.lemmas.Str.{digit_value_digit}
use Rattle.std.specs.Prelude.{nat_le}
use Rattle.std.proofs.lemmas.Bool.{and_parts, leb-true}
use Rattle.std.proofs.lemmas.Bool.Decides.{Decides-by_and}
use Rattle.std.proofs.lemmas.List.Elements.{All-get_or}
use Rattle.gs_http.specs.Framing.{capped, is_number}
use Rattle.std.specs.Str.Parse.{AllDigits}
use Rattle.std.proofs.lemmas.Int.Digits.{digits_value-lt}
use Rattle.std.proofs.Math.Nat.{pow-le-pow_right}
use Rattle.gs_http.specs.Conditions.{is_commit_number}

digits_value_after-push : (r n : ℕ) (xs : List ℕ) (c : ℕ)
    → digits_value_after r n (xs ++ c ∷ []) ≡ digits_value_after r n xs * r + digit_value c
digits_value_after-push r n [] c = refl
digits_value_after-push r n (x ∷ xs) c = digits_value_after-push r (n * r + digit_value x) xs c

capped_more : (x d : ℕ) → min (min (capped x * 10) 18446744073709551615 + d) 18446744073709551615 ≡ capped (x * 10 + d)
capped_more x d = omega arith

pub digit_more : (xs : List ℕ) (i n m p : ℕ) → i < length xs → 48 ≤ get_or xs i 0 → get_or xs i 0 ≤ 57
    → n ≡ capped (digits_value 10 (take i xs)) → m ≡ min (n * 10) 18446744073709551615
    → p ≡ min (m + (get_or xs i 0 - 48)) 18446744073709551615 → p ≡ capped (digits_value 10 (take (i + 1) xs))
digit_more xs i n m p lt low high old mul add =
    let c = get_or xs i 0 in
    let digit : digit_value c + 48 ≡ c = digit_value_digit c (low, high) in
    let more : digits_value 10 (take (i + 1) xs) ≡ digits_value 10 (take i xs) * 10 + digit_value c =
    ap (digits_value 10) (take_more xs i 0 lt) ∙ digits_value_after-push 10 0 (take i xs) c in
    let step = capped_more (digits_value 10 (take i xs)) (digit_value c) in
    rw more (omega (arith, step, digit, old, mul, add))

pub digit_at : (xs : List ℕ) → is_number xs ≡ true → (i : ℕ) → i < length xs → (48 ≤ get_or xs i 0) × (get_or xs i 0 ≤ 57)
digit_at xs number i lt =
    let P : ℕ → Type 0 = λ c. is_ascii_digit c ≡ true in
    let all = (Decides-by_and is_ascii_digit P (list_all is_ascii_digit) (λ c. (λ e. e, λ e. e)) refl (λ _ _. refl) xs).0 (and_parts (list_all is_ascii_digit xs) _ number).0 in
    let one : is_ascii_digit (get_or xs i 0) ≡ true = All-get_or P xs i 0 lt all in
    let parts = and_parts (nat_le 48 (get_or xs i 0)) (nat_le (get_or xs i 0) 57) one in
    (leb-true 48 (get_or xs i 0) parts.0, leb-true (get_or xs i 0) 57 parts.1)

all_digits : (xs : List ℕ) → list_all is_ascii_digit xs ≡ true → AllDigits 10 xs
all_digits [] e = tt
all_digits (x ∷ xs) e =
    let parts = and_parts (is_ascii_digit x) (list_all is_ascii_digit xs) e in
    let range = and_parts (nat_le 48 x) (nat_le x 57) parts.0 in
    let low = leb-true 48 x range.0 in
    let high = leb-true x 57 range.1 in
    (omega (arith, digit_value_digit x (low, high), low, high), all_digits xs parts.1)

-- 18 digits are below 2^64
pub commit_number_fits : (v : List ℕ) → is_commit_number v ≡ true → capped (digits_value 10 v) ≡ digits_value 10 v
commit_number_fits v e =
    let parts = and_parts (is_number v) (nat_le (length v) 18) e in
    let digits = all_digits v (and_parts (list_all is_ascii_digit v) _ parts.0).0 in
    let below = digits_value-lt 10 v digits in
    let ten : 0 < 10 = omega arith in
    let few : 10 ^ length v ≤ 10 ^ 18 = pow-le-pow_right ten (leb-true (length v) 18 parts.1) in
    omega (arith, below, few)
