-- The test of an absolute IRI says what the definition says, and is the same on characters and on bytes.
use Rattle.std.proofs.Common.{◌≡◌, ℕ, ◌+◌, ◌/◌, ◌%◌, ◌≤◌, ◌<◌, Bool, true, false, cond, ◌&&◌, ◌==◌, List, [], ◌∷◌, ◌++◌, refl, sym, ap, ◌∙◌, arith}
use Rattle.std.specs.List.{list_all}
use Rattle.std.proofs.lemmas.List.Folds.{list_all-append}
use Rattle.std.proofs.lemmas.Bool.{eqb-true, and_parts, and_from}
use Rattle.std.proofs.lemmas.Bool.Decides.{nat_tests}
use Rattle.std.proofs.lemmas.Str.{encode_ascii, length-encode, len_utf8_bounds}
use Rattle.std.proofs.Math.Bool.{and-true}
use Rattle.std.proofs.lemmas.Bool.{ltb-true, ltb-false}
use Rattle.std.proofs.Common.{length}
use lib.Utf8.{encode, encodes}
use lib.Dec.{ltb}
use Rattle.gs_model.specs.Characters.{is_iri_char}
use Rattle.gs_model.specs.Iris.{is_absolute, is_letter, is_scheme_char, is_scheme_rest, IsAbsolute}

record RestParts (text : List ℕ) : Type 0 where
  scheme : List ℕ
  rest : List ℕ
  parts : text ≡ scheme ++ 58 ∷ rest
  goes_on : list_all is_scheme_char scheme ≡ true
  characters : list_all is_iri_char rest ≡ true

rest_parts : (text : List ℕ) → is_scheme_rest text ≡ true → RestParts text
rest_parts [] e = absurd (cc)
rest_parts (c ∷ cs) e =
    elim (c == 58) as (λ b. (c == 58) ≡ b → cond b (list_all is_iri_char cs) (is_scheme_char c && is_scheme_rest cs) ≡ true → RestParts (c ∷ cs)) [
      | true ↦ λ h k. record { scheme = []; rest = cs; parts = ap (λ z. z ∷ cs) (eqb-true c 58 h); goes_on = refl; characters = k }
      | false ↦ λ h k.
          let two = and_parts (is_scheme_char c) (is_scheme_rest cs) k in
          let p = rest_parts cs two.1 in
          record { scheme = c ∷ p.scheme; rest = p.rest; parts = ap (λ z. c ∷ z) p.parts; goes_on = and_from _ _ two.0 p.goes_on; characters = p.characters }
    ] refl e

rest_back : (scheme rest : List ℕ) → list_all is_scheme_char scheme ≡ true → list_all is_iri_char rest ≡ true → is_scheme_rest (scheme ++ 58 ∷ rest) ≡ true
rest_back [] rest g k = k
rest_back (c ∷ cs) rest g k =
    elim (c == 58) as (λ b. (c == 58) ≡ b → cond b (list_all is_iri_char (cs ++ 58 ∷ rest)) (is_scheme_char c && is_scheme_rest (cs ++ 58 ∷ rest)) ≡ true) [
      | true ↦ λ h. let colon : is_scheme_char 58 ≡ true = sym (ap is_scheme_char (eqb-true c 58 h)) ∙ (and_parts (is_scheme_char c) (list_all is_scheme_char cs) g).0 in absurd (cc)
      | false ↦ λ h. let two = and_parts (is_scheme_char c) (list_all is_scheme_char cs) g in and_from _ _ two.0 (rest_back cs rest two.1 k)
    ] refl

pub absolute_forth : (text : List ℕ) → is_absolute text ≡ true → IsAbsolute text
absolute_forth [] e = absurd (cc)
absolute_forth (c ∷ cs) e =
    let two = and_parts (is_letter c) (is_scheme_rest cs) e in
    let p = rest_parts cs two.1 in
    record { first = c; scheme = p.scheme; rest = p.rest; parts = ap (λ z. c ∷ z) p.parts; begins = two.0; goes_on = p.goes_on; characters = p.characters }

pub absolute_back : (text : List ℕ) → IsAbsolute text → is_absolute text ≡ true
absolute_back text a = ap is_absolute a.parts ∙ and_from _ _ a.begins (rest_back a.scheme a.rest a.goes_on a.characters)

-- each byte of a character from 128 on is at least 128
abbrev AllHigh : List ℕ → Type 0
AllHigh [] = Unit {0}
AllHigh (b ∷ bs) = (128 ≤ b) × AllHigh bs

high : (c : ℕ) → 128 ≤ c → AllHigh (encode c)
unfolding encode
high c h =
    elim (ltb c 128) as (λ x. ltb c 128 ≡ x → AllHigh (cond x (c ∷ []) (cond (ltb c 2048) ((192 + c / 64) ∷ (128 + c % 64) ∷ []) (cond (ltb c 65536) ((224 + c / 4096) ∷ (128 + (c / 64) % 64) ∷ (128 + c % 64) ∷ []) ((240 + c / 262144) ∷ (128 + (c / 4096) % 64) ∷ (128 + (c / 64) % 64) ∷ (128 + c % 64) ∷ []))))) [
      | true ↦ λ _. (h, tt)
      | false ↦ λ _. elim (ltb c 2048) as (λ x. AllHigh (cond x ((192 + c / 64) ∷ (128 + c % 64) ∷ []) (cond (ltb c 65536) ((224 + c / 4096) ∷ (128 + (c / 64) % 64) ∷ (128 + c % 64) ∷ []) ((240 + c / 262144) ∷ (128 + (c / 4096) % 64) ∷ (128 + (c / 64) % 64) ∷ (128 + c % 64) ∷ [])))) [
        | true ↦ (omega arith, (omega arith, tt))
        | false ↦ elim (ltb c 65536) as (λ x. AllHigh (cond x ((224 + c / 4096) ∷ (128 + (c / 64) % 64) ∷ (128 + c % 64) ∷ []) ((240 + c / 262144) ∷ (128 + (c / 4096) % 64) ∷ (128 + (c / 64) % 64) ∷ (128 + c % 64) ∷ []))) [
          | true ↦ (omega arith, (omega arith, (omega arith, tt)))
          | false ↦ (omega arith, (omega arith, (omega arith, (omega arith, tt))))
        ]
      ]
    ] refl

all_high : (p : ℕ → Bool) → ((b : ℕ) → 128 ≤ b → p b ≡ true) → (bs : List ℕ) → AllHigh bs → list_all p bs ≡ true
all_high p holds [] h = refl
all_high p holds (b ∷ bs) h = and_from _ _ (holds b h.0) (all_high p holds bs h.1)

iri_high : (b : ℕ) → 128 ≤ b → is_iri_char b ≡ true
iri_high b h = grind (arith, nat_tests)

scheme_high : (b : ℕ) → 128 ≤ b → is_scheme_char b ≡ false
scheme_high b h = grind (arith, nat_tests)

letter_high : (b : ℕ) → 128 ≤ b → is_letter b ≡ false
letter_high b h = grind (arith, nat_tests)

colon_high : (b : ℕ) → 128 ≤ b → (b == 58) ≡ false
colon_high b h = grind (arith, nat_tests)

-- one test on the bytes of a character from 128 on, where it holds of each number from there on
all_encode : (c : ℕ) → list_all is_iri_char (encode c) ≡ is_iri_char c
all_encode c =
    elim (ltb c 128) as (λ x. ltb c 128 ≡ x → list_all is_iri_char (encode c) ≡ is_iri_char c) [
      | true ↦ λ h. ap (list_all is_iri_char) (encode_ascii c (ltb-true c 128 h)) ∙ and-true (is_iri_char c)
      | false ↦ λ h. all_high is_iri_char iri_high (encode c) (high c (ltb-false c 128 h)) ∙ sym (iri_high c (ltb-false c 128 h))
    ] refl

all_encodes : (cs : List ℕ) → list_all is_iri_char (encodes cs) ≡ list_all is_iri_char cs
all_encodes [] = refl
all_encodes (c ∷ cs) = list_all-append is_iri_char (encode c) (encodes cs) ∙ (ap (λ b. b && list_all is_iri_char (encodes cs)) (all_encode c) ∙ ap (λ b. is_iri_char c && b) (all_encodes cs))

rest_high : (bs more : List ℕ) → 0 < length bs → AllHigh bs → is_scheme_rest (bs ++ more) ≡ false
rest_high [] more l h = absurd (omega arith)
rest_high (b ∷ bs) more l h =
    ap (λ t. cond t (list_all is_iri_char (bs ++ more)) (is_scheme_char b && is_scheme_rest (bs ++ more))) (colon_high b h.0) ∙ ap (λ t. t && is_scheme_rest (bs ++ more)) (scheme_high b h.0)

absolute_high : (bs more : List ℕ) → 0 < length bs → AllHigh bs → is_absolute (bs ++ more) ≡ false
absolute_high [] more l h = absurd (omega arith)
absolute_high (b ∷ bs) more l h = ap (λ t. t && is_scheme_rest (bs ++ more)) (letter_high b h.0)

some_bytes : (c : ℕ) → 0 < length (encode c)
some_bytes c = let b = len_utf8_bounds c in rw length-encode (omega arith)

rest_encodes : (cs : List ℕ) → is_scheme_rest (encodes cs) ≡ is_scheme_rest cs
rest_encodes [] = refl
rest_encodes (c ∷ cs) =
    elim (ltb c 128) as (λ x. ltb c 128 ≡ x → is_scheme_rest (encode c ++ encodes cs) ≡ is_scheme_rest (c ∷ cs)) [
      | true ↦ λ h. ap (λ t. is_scheme_rest (t ++ encodes cs)) (encode_ascii c (ltb-true c 128 h))
          ∙ (ap (λ t. cond (c == 58) t (is_scheme_char c && is_scheme_rest (encodes cs))) (all_encodes cs)
          ∙ ap (λ t. cond (c == 58) (list_all is_iri_char cs) (is_scheme_char c && t)) (rest_encodes cs))
      | false ↦ λ h. let up = ltb-false c 128 h in
          rest_high (encode c) (encodes cs) (some_bytes c) (high c up) ∙ sym (rest_high (c ∷ []) cs (omega arith) (up, tt))
    ] refl

pub absolute_encodes : (cs : List ℕ) → is_absolute (encodes cs) ≡ is_absolute cs
absolute_encodes [] = refl
absolute_encodes (c ∷ cs) =
    elim (ltb c 128) as (λ x. ltb c 128 ≡ x → is_absolute (encode c ++ encodes cs) ≡ is_absolute (c ∷ cs)) [
      | true ↦ λ h. ap (λ t. is_absolute (t ++ encodes cs)) (encode_ascii c (ltb-true c 128 h)) ∙ ap (λ t. is_letter c && t) (rest_encodes cs)
      | false ↦ λ h. let up = ltb-false c 128 h in
          absolute_high (encode c) (encodes cs) (some_bytes c) (high c up) ∙ sym (absolute_high (c ∷ []) cs (omega arith) (up, tt))
    ] refl
