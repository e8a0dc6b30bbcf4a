-- Bytes that are the text of a term.
use Rattle.std.proofs.Common.{◌≡◌, ℕ, ◌+◌, ◌/◌, ◌%◌, ◌^◌, ◌≤◌, ◌<◌, true, false, cond, ◌==◌, List, [], ◌∷◌, ◌++◌, length, map, refl, sym, ap, ◌∙◌, arith, subst, count_by, length-append, append_assoc, append-nil, take, get_or, suc}
use Rattle.std.proofs.lemmas.List.{take_more}
use Rattle.std.proofs.lemmas.List.Recursion.{is_count_by}
use Rattle.std.proofs.lemmas.Bool.{eqb-true}
use Rattle.std.proofs.lemmas.Bool.Decides.{nat_tests}
use Rattle.std.specs.Str.{bytes_eq, str_to_ascii_lowercase}
use Rattle.std.specs.Char.{to_ascii_lowercase}
use Rattle.std.proofs.lemmas.List.{length-map}
use Rattle.std.specs.Fmt.{decimal}
use Rattle.std.proofs.lemmas.Fmt.{decimal_by_steps, length-decimal-le}
use Rattle.std.specs.Int.Digits.{digits_of}
use Rattle.std.proofs.lemmas.Int.Digits.{digits_of_step}
use Rattle.gs_model.specs.Limits.{max_term_bytes}
use Rattle.gs_model.specs.Terms.{Term, Blank, Literal, LiteralKind, Typed, Tagged, xsd_string, suffix, text_of, is_term, IsText, IsTerm, numeral, escaped, escape_of, is_escaped}
use Rattle.gs_model.specs.Texts.{term_of}
use Rattle.gs_model.specs.Texts.{IsCanonical}
use Rattle.gs_model.proofs.TextLemmas.{term_of-text_of, same_text}

pub term_of-bytes : (t : Term) (bytes : List ℕ) → bytes ≡ text_of t → term_of bytes ≡ t
term_of-bytes t bytes e = ap term_of e ∙ term_of-text_of t

pub canonical : (t : Term) (bytes : List ℕ) → bytes ≡ text_of t → is_term t ≡ true → IsText t → length bytes ≤ max_term_bytes → IsCanonical bytes
canonical t bytes e formed spelled short =
    let same = term_of-bytes t bytes e in
    let P : Term → Type 0 = λ u. IsTerm u in
    record {
      canonical = ap text_of same ∙ sym e;
      valid = subst P (sym same) (record { formed = formed; spelled = spelled; short = let Q : List ℕ → Type 0 = λ bs. length bs ≤ max_term_bytes in subst Q e short });
    }

-- numbers as the program writes them
glyphs-append : (xs ys : List ℕ) → map (λ d. 48 + d) (xs ++ ys) ≡ map (λ d. 48 + d) xs ++ map (λ d. 48 + d) ys
glyphs-append [] ys = refl
glyphs-append (x ∷ xs) ys = ap (λ z. (48 + x) ∷ z) (glyphs-append xs ys)

numeral-digits : (n : ℕ) → 0 < n → numeral n ≡ map (λ d. 48 + d) (digits_of 10 n)
unfolding numeral
numeral-digits n h = let e : (n == 0) ≡ false = grind (arith, nat_tests) in ap (λ b. cond b (48 ∷ []) (map (λ d. 48 + d) (digits_of 10 n))) e

numeral-step : (n : ℕ) → 0 < n → numeral n ≡ map (λ d. 48 + d) (digits_of 10 (n / 10)) ++ (48 + n % 10) ∷ []
numeral-step n h = numeral-digits n h ∙ ap (map (λ d. 48 + d)) (digits_of_step 10 n (omega arith) h) ∙ glyphs-append (digits_of 10 (n / 10)) (n % 10 ∷ [])

numeral-one : (n : ℕ) → n < 10 → numeral n ≡ (48 + n) ∷ []
unfolding numeral
numeral-one n h =
    elim (n == 0) as (λ b. (n == 0) ≡ b → cond b (48 ∷ []) (map (λ d. 48 + d) (digits_of 10 n)) ≡ (48 + n) ∷ []) [
      | true ↦ λ e. let z : 48 ≡ 48 + n = omega (arith, eqb-true n 0 e) in ap (λ x. x ∷ []) z
      | false ↦ λ e.
          let positive : 0 < n = grind (arith, nat_tests) in
          let none : n / 10 ≡ 0 = omega arith in
          let last : n % 10 ≡ n = omega arith in
          ap (map (λ d. 48 + d)) (digits_of_step 10 n (omega arith) positive) ∙ ap (λ q. map (λ d. 48 + d) (digits_of 10 q ++ n % 10 ∷ [])) none ∙ ap (λ x. (48 + x) ∷ []) last
    ] refl

pub decimal_is_numeral : (n : ℕ) → n < 2 ^ 64 → decimal n ≡ numeral n
decimal_is_numeral n h =
    decimal_by_steps (λ m ds. ds ≡ numeral m) (λ m low. sym (numeral-one m low))
    (λ m ds high e. let positive : 0 < m / 10 = omega arith in let some : 0 < m = omega arith in
    ap (λ xs. xs ++ (48 + m % 10) ∷ []) (e ∙ numeral-digits (m / 10) positive) ∙ sym (numeral-step m some)) n h

pub length-numeral : (n : ℕ) → n < 2 ^ 64 → length (numeral n) ≤ 20
length-numeral n h = let P : List ℕ → Type 0 = λ ds. length ds ≤ 20 in subst P (decimal_is_numeral n h) (length-decimal-le 20 n (omega arith) (omega arith) h)

pub blank_formed : (r k : ℕ) → r < 2 ^ 64 → k < 2 ^ 64 → is_term (Blank r k) ≡ true
blank_formed r k p q = grind (arith, nat_tests)

pub blank_short : (r k : ℕ) → r < 2 ^ 64 → k < 2 ^ 64 → length (text_of (Blank r k)) ≤ max_term_bytes
blank_short r k p q = omega (arith, length-append (numeral r) (95 ∷ numeral k), length-numeral r p, length-numeral k q)

-- escaping
pub escaped-append : (xs ys : List ℕ) → escaped (xs ++ ys) ≡ escaped xs ++ escaped ys
escaped-append [] ys = refl
escaped-append (x ∷ xs) ys = ap (λ z. escape_of x ++ z) (escaped-append xs ys) ∙ sym (append_assoc (escape_of x) (escaped xs) (escaped ys))

pub escaped_more : (xs : List ℕ) (i : ℕ) → i < length xs → escaped (take (i + 1) xs) ≡ escaped (take i xs) ++ escape_of (get_or xs i 0)
escaped_more xs i h = ap escaped (take_more xs i 0 h) ∙ escaped-append (take i xs) (get_or xs i 0 ∷ []) ∙ ap (λ z. escaped (take i xs) ++ z) (append-nil (escape_of (get_or xs i 0)))

escape_of_plain : (c : ℕ) → is_escaped c ≡ false → escape_of c ≡ c ∷ []
escape_of_plain c e = grind (arith, nat_tests)

-- how many are escaped, by recursion
abbrev escapes : List ℕ → ℕ
escapes [] = 0
escapes (x ∷ xs) = cond (is_escaped x) (1 + escapes xs) (escapes xs)

escapes_is : (xs : List ℕ) → escapes xs ≡ count_by is_escaped xs
escapes_is = is_count_by escapes is_escaped refl (λ x xs. refl)

plain_by : (xs : List ℕ) → 0 ≡ escapes xs → escaped xs ≡ xs
plain_by [] e = refl
plain_by (x ∷ xs) e =
    elim (is_escaped x) as (λ b. is_escaped x ≡ b → 0 ≡ cond b (1 + escapes xs) (escapes xs) → escape_of x ++ escaped xs ≡ x ∷ xs) [
      | true ↦ λ h k. absurd (omega arith)
      | false ↦ λ h k. ap (λ z. z ++ escaped xs) (escape_of_plain x h) ∙ ap (λ z. x ∷ z) (plain_by xs k)
    ] refl e

pub escaped_plain : (xs : List ℕ) → 0 ≡ count_by is_escaped xs → escaped xs ≡ xs
escaped_plain xs e = plain_by xs (e ∙ sym (escapes_is xs))

length-escape_of : (c : ℕ) → length (escape_of c) ≡ cond (is_escaped c) 2 1
length-escape_of c = grind (arith, nat_tests)

length_by : (xs : List ℕ) → length (escaped xs) ≡ length xs + escapes xs
length_by [] = refl
length_by (x ∷ xs) =
    elim (is_escaped x) as (λ b. is_escaped x ≡ b → length (escape_of x ++ escaped xs) ≡ suc (length xs) + cond b (1 + escapes xs) (escapes xs)) [
      | true ↦ λ h. let e : length (escape_of x) ≡ 2 = length-escape_of x ∙ ap (λ b. cond b 2 1) h in omega (arith, length-append (escape_of x) (escaped xs), length_by xs)
      | false ↦ λ h. let e : length (escape_of x) ≡ 1 = length-escape_of x ∙ ap (λ b. cond b 2 1) h in omega (arith, length-append (escape_of x) (escaped xs), length_by xs)
    ] refl

pub length-escaped : (xs : List ℕ) → length (escaped xs) ≡ length xs + count_by is_escaped xs
length-escaped xs = length_by xs ∙ ap (λ n. length xs + n) (escapes_is xs)

-- a literal's text is as long as its parts
pub length-literal : (lexical : List ℕ) (kind : LiteralKind) → length (text_of (Literal lexical kind)) ≡ length lexical + count_by is_escaped lexical + length (suffix kind) + 2
length-literal lexical kind = omega (arith, length-append (escaped lexical) (34 ∷ suffix kind), length-escaped lexical)

pub literal_bytes : (lexical : List ℕ) (kind : LiteralKind) → (34 ∷ escaped lexical ++ 34 ∷ []) ++ suffix kind ≡ text_of (Literal lexical kind)
literal_bytes lexical kind = ap (λ z. 34 ∷ z) (append_assoc (escaped lexical) (34 ∷ []) (suffix kind))

pub suffix_plain : (d : List ℕ) → true ≡ bytes_eq d xsd_string → suffix (Typed d) ≡ []
unfolding suffix
suffix_plain d e = ap (λ b. cond b [] (94 ∷ 94 ∷ 60 ∷ d ++ 62 ∷ [])) (sym e)

pub suffix_other : (d : List ℕ) → false ≡ bytes_eq d xsd_string → suffix (Typed d) ≡ 94 ∷ 94 ∷ 60 ∷ d ++ 62 ∷ []
unfolding suffix
suffix_other d e = ap (λ b. cond b [] (94 ∷ 94 ∷ 60 ∷ d ++ 62 ∷ [])) (sym e)

pub suffix_tag : (t : List ℕ) → suffix (Tagged t) ≡ 64 ∷ t
unfolding suffix
suffix_tag t = refl

pub length-tag : (t : List ℕ) → length (suffix (Tagged (str_to_ascii_lowercase t))) ≡ length t + 1
length-tag t = ap length (suffix_tag (str_to_ascii_lowercase t)) ∙ omega (arith, length-map t to_ascii_lowercase)

-- a datatype that is longer than any term makes a literal too long
pub long_datatype : (d : List ℕ) → max_term_bytes < length d → max_term_bytes < length (suffix (Typed d))
long_datatype d h =
    elim (bytes_eq d xsd_string) as (λ b. b ≡ bytes_eq d xsd_string → max_term_bytes < length (suffix (Typed d))) [
      | true ↦ λ e. let n : length d ≡ 39 = ap length (same_text d xsd_string (sym e)) in absurd (omega arith)
      | false ↦ λ e. rw (suffix_other d e) (omega (arith, length-append d (62 ∷ [])))
    ] refl
