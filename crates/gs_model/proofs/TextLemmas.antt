-- A term's text gives the term back.
use Rattle.std.proofs.Common.{◌≡◌, ℕ, ◌+◌, ◌-◌, ◌<◌, Bool, true, false, cond, ◌==◌, ◌&&◌, nat_le, List, [], ◌∷◌, ◌++◌, map, refl, sym, ap, ◌∙◌, arith, append_assoc}
use Rattle.std.proofs.lemmas.Bool.{eqb-true, eq-eqb}
use Rattle.std.proofs.lemmas.Bool.Decides.{nat_tests}
use Rattle.std.proofs.lemmas.Slice.Eq.{bytes_eq-Decides}
use Rattle.std.specs.List.{slice_get}
use Rattle.std.proofs.Common.{Some}
use Rattle.std.specs.Str.{bytes_eq}
use Rattle.std.specs.Int.Digits.{digits_of, number_from_digits, AllBelowBase}
use Rattle.std.proofs.lemmas.Int.Digits.{all_below_base_digits_of, number_digits_of}
use Rattle.gs_model.specs.Terms.{Term, Iri, Blank, Literal, LiteralKind, Typed, Tagged, xsd_string, text_of, kind_byte, escape_of, escaped, numeral, suffix}
use Rattle.gs_model.specs.Texts.{front, split_first, number_of, lexical_of, kind_of, blank_of, literal_of, term_of}

pub front-snoc : (xs : List ℕ) (y : ℕ) → front (xs ++ y ∷ []) ≡ xs
front-snoc [] y = refl
front-snoc (x ∷ []) y = refl
front-snoc (x ∷ z ∷ xs) y = ap (λ r. x ∷ r) (front-snoc (z ∷ xs) y)

-- none of the list is x
abbrev pub AllOther : ℕ → List ℕ → Type 0
AllOther x [] = Unit {0}
AllOther x (c ∷ cs) = ((c == x) ≡ false) × AllOther x cs

pub split_first-other : (x : ℕ) (xs ys : List ℕ) → AllOther x xs → split_first x (xs ++ x ∷ ys) ≡ (xs, ys)
split_first-other x [] ys h = ap (λ b. cond b ([], ys) (x ∷ (split_first x ys).0, (split_first x ys).1)) (eq-eqb x x refl)
split_first-other x (c ∷ cs) ys h =
    ap (λ b. cond b ([], cs ++ x ∷ ys) (c ∷ (split_first x (cs ++ x ∷ ys)).0, (split_first x (cs ++ x ∷ ys)).1)) h.0
    ∙ ap (λ p. (c ∷ p.0, p.1)) (split_first-other x cs ys h.1)

-- numbers
undone : (ds : List ℕ) → map (λ d. d - 48) (map (λ d. 48 + d) ds) ≡ ds
undone [] = refl
undone (d ∷ ds) = let e : (48 + d) - 48 ≡ d = omega arith in ap (λ z. z ∷ map (λ d. d - 48) (map (λ d. 48 + d) ds)) e ∙ ap (λ z. d ∷ z) (undone ds)

pub number_of-numeral : (n : ℕ) → number_of (numeral n) ≡ n
unfolding numeral
number_of-numeral n =
    elim (n == 0) as (λ b. (n == 0) ≡ b → number_of (cond b (48 ∷ []) (map (λ d. 48 + d) (digits_of 10 n))) ≡ n) [
      | true ↦ λ h. sym (eqb-true n 0 h)
      | false ↦ λ h. ap (number_from_digits 10) (undone (digits_of 10 n)) ∙ number_digits_of 10 n (omega arith)
    ] refl

-- no digit
abbrev pub is_digit : ℕ → Bool
is_digit c = nat_le 48 c && nat_le c 57

digit_other : (x d : ℕ) → is_digit x ≡ false → d < 10 → ((48 + d) == x) ≡ false
digit_other x d never below = grind (arith, nat_tests)

other_digits : (x : ℕ) → is_digit x ≡ false → (ds : List ℕ) → AllBelowBase 10 ds → AllOther x (map (λ d. 48 + d) ds)
other_digits x never [] h = tt
other_digits x never (d ∷ ds) h = (digit_other x d never h.0, other_digits x never ds h.1)

pub other-numeral : (x : ℕ) → is_digit x ≡ false → (n : ℕ) → AllOther x (numeral n)
unfolding numeral
other-numeral x never n =
    elim (n == 0) as (λ b. AllOther x (cond b (48 ∷ []) (map (λ d. 48 + d) (digits_of 10 n)))) [
      | true ↦ (digit_other x 0 never (omega arith), tt)
      | false ↦ other_digits x never (digits_of 10 n) (all_below_base_digits_of 10 n (omega arith))
    ]

-- lexical forms
abbrev Shows : ℕ → List ℕ → Type 0
Shows c e = (more : List ℕ) → lexical_of false (e ++ more) ≡ (c ∷ (lexical_of false more).0, (lexical_of false more).1)

shows_as : (c d : ℕ) → d ≡ c → (e : List ℕ) → Shows d e → Shows c e
shows_as c d same e s more = s more ∙ ap (λ z. (z ∷ (lexical_of false more).0, (lexical_of false more).1)) same

shows_itself : (c : ℕ) → (c == 34) ≡ false → (c == 92) ≡ false → Shows c (c ∷ [])
shows_itself c p q more =
    ap (λ b. cond b ([], more) (cond (c == 92) (lexical_of true more) (c ∷ (lexical_of false more).0, (lexical_of false more).1))) p
    ∙ ap (λ b. cond b (lexical_of true more) (c ∷ (lexical_of false more).0, (lexical_of false more).1)) q

escape_shows : (c : ℕ) → Shows c (escape_of c)
escape_shows c =
    elim (c == 34) as (λ b. (c == 34) ≡ b → Shows c (cond b (92 ∷ 34 ∷ []) (cond (c == 92) (92 ∷ 92 ∷ []) (cond (c == 10) (92 ∷ 110 ∷ []) (cond (c == 13) (92 ∷ 114 ∷ []) (c ∷ [])))))) [
      | true ↦ λ h. shows_as c 34 (sym (eqb-true c 34 h)) (92 ∷ 34 ∷ []) (λ more. refl)
      | false ↦ λ h. elim (c == 92) as (λ b. (c == 92) ≡ b → Shows c (cond b (92 ∷ 92 ∷ []) (cond (c == 10) (92 ∷ 110 ∷ []) (cond (c == 13) (92 ∷ 114 ∷ []) (c ∷ []))))) [
        | true ↦ λ i. shows_as c 92 (sym (eqb-true c 92 i)) (92 ∷ 92 ∷ []) (λ more. refl)
        | false ↦ λ i. elim (c == 10) as (λ b. (c == 10) ≡ b → Shows c (cond b (92 ∷ 110 ∷ []) (cond (c == 13) (92 ∷ 114 ∷ []) (c ∷ [])))) [
          | true ↦ λ j. shows_as c 10 (sym (eqb-true c 10 j)) (92 ∷ 110 ∷ []) (λ more. refl)
          | false ↦ λ j. elim (c == 13) as (λ b. (c == 13) ≡ b → Shows c (cond b (92 ∷ 114 ∷ []) (c ∷ []))) [
            | true ↦ λ k. shows_as c 13 (sym (eqb-true c 13 k)) (92 ∷ 114 ∷ []) (λ more. refl)
            | false ↦ λ k. shows_itself c h i
          ] refl
        ] refl
      ] refl
    ] refl

pub lexical_of-escaped : (lexical rest : List ℕ) → lexical_of false (escaped lexical ++ 34 ∷ rest) ≡ (lexical, rest)
lexical_of-escaped [] rest = refl
lexical_of-escaped (c ∷ cs) rest =
    ap (lexical_of false) (append_assoc (escape_of c) (escaped cs) (34 ∷ rest))
    ∙ escape_shows c (escaped cs ++ 34 ∷ rest) ∙ ap (λ p. (c ∷ p.0, p.1)) (lexical_of-escaped cs rest)

pub same_text : (xs ys : List ℕ) → bytes_eq xs ys ≡ true → xs ≡ ys
same_text xs ys e = (bytes_eq-Decides xs ys).0 e

pub kind_of-suffix : (k : LiteralKind) → kind_of (suffix k) ≡ k
unfolding suffix
kind_of-suffix (Tagged t) = refl
kind_of-suffix (Typed d) =
    elim (bytes_eq d xsd_string) as (λ b. bytes_eq d xsd_string ≡ b → kind_of (cond b [] (94 ∷ 94 ∷ 60 ∷ d ++ 62 ∷ [])) ≡ Typed d) [
      | true ↦ λ h. ap Typed (sym (same_text d xsd_string h))
      | false ↦ λ h. ap Typed (front-snoc d 62)
    ] refl

pub term_of-text_of : (t : Term) → term_of (text_of t) ≡ t
unfolding term_of
term_of-text_of (Iri text) = ap Iri (front-snoc text 62)
term_of-text_of (Blank r k) =
    ap blank_of (split_first-other 95 (numeral r) (numeral k) (other-numeral 95 refl r))
    ∙ ap (λ n. Blank n (number_of (numeral k))) (number_of-numeral r) ∙ ap (Blank r) (number_of-numeral k)
term_of-text_of (Literal lexical kind) =
    ap literal_of (lexical_of-escaped lexical (suffix kind)) ∙ ap (Literal lexical) (kind_of-suffix kind)

pub text_of-injective : (s t : Term) → text_of s ≡ text_of t → s ≡ t
text_of-injective s t e = sym (term_of-text_of s) ∙ ap term_of e ∙ term_of-text_of t

pub text_of-first : (t : Term) → slice_get (text_of t) 0 ≡ Some (kind_byte t)
text_of-first (Iri text) = refl
text_of-first (Blank r k) = refl
text_of-first (Literal lexical kind) = refl
