-- The text of a term that is written into one buffer.
use Rattle.std.proofs.Common.{◌≡◌, ℕ, ◌+◌, ◌<◌, ◌≤◌, true, false, cond, List, [], ◌∷◌, ◌++◌, length, refl, sym, subst, ap, ap₂, ◌∙◌, arith, length-append, Ok, Err}
use Rattle.std.specs.Prelude.{◌==◌, ◌&&◌, nat_le, Result, IfOk}
use Rattle.std.specs.List.{list_all}
use Rattle.std.specs.Str.{IsUtf8}
use Rattle.std.proofs.lemmas.Str.{IsUtf8-append}
use Rattle.std.proofs.lemmas.List.Folds.{list_all-append}
use Rattle.std.proofs.lemmas.Bool.{and_parts, and_from}
use Rattle.std.proofs.lemmas.Bool.Decides.{nat_tests}
use Rattle.gs_model.specs.Characters.{is_iri_char}
use Rattle.gs_model.specs.Iris.{is_absolute, is_letter, is_scheme_char, is_scheme_rest}
use Rattle.gs_model.specs.Limits.{max_term_bytes}
use Rattle.gs_model.specs.Terms.{Term, Iri, Literal, text_of, escaped, escape_of, is_term, IsTerm}
use Rattle.gs_model.specs.Texts.{kind_of, term_of, IsCanonical}
use Rattle.gs_model.specs.declared.faults.Fault.TheVariants as fault
use Rattle.gs_term.specs.Making.{made}
use Rattle.gs_term.proofs.MakingLemmas.{canonical, term_of-bytes}
use Rattle.gs_token_terms.specs.Plain.{is_plain, IsAfter}

-- a term that is too long
pub too_long : (t : Term) (n : ℕ) → is_term t ≡ true → length (text_of t) ≡ n → max_term_bytes < n → Err fault.TermTooLong ≡ made t
too_long t n f e s =
    let l : nat_le (length (text_of t)) max_term_bytes ≡ false = grind (arith, nat_tests) in
    sym (ap (λ b. cond b (cond (nat_le (length (text_of t)) max_term_bytes) (Ok t) (Err fault.TermTooLong)) (Err fault.Syntax)) f
    ∙ ap (λ b. cond b (Ok t) (Err fault.TermTooLong)) l)

-- and one that is not, by the term of its text
pub short_enough : (t u : Term) (bytes : List ℕ) (n : ℕ) → is_term t ≡ true → length (text_of t) ≡ n → n ≤ max_term_bytes → bytes ≡ text_of t → u ≡ term_of bytes → Ok u ≡ made t
short_enough t u bytes n f e s b v =
    let l : nat_le (length (text_of t)) max_term_bytes ≡ true = grind (arith, nat_tests) in
    ap Ok (v ∙ term_of-bytes t bytes b)
    ∙ sym (ap (λ c. cond c (cond (nat_le (length (text_of t)) max_term_bytes) (Ok t) (Err fault.TermTooLong)) (Err fault.Syntax)) f
    ∙ ap (λ c. cond c (Ok t) (Err fault.TermTooLong)) l)

-- an IRI with IRI characters after it is an IRI
rest_goes_on : (x y : List ℕ) → is_scheme_rest x ≡ true → list_all is_iri_char y ≡ true → is_scheme_rest (x ++ y) ≡ true
rest_goes_on [] y a e = absurd (cc)
rest_goes_on (c ∷ cs) y a e =
    elim (c == 58) as (λ b. cond b (list_all is_iri_char cs) (is_scheme_char c && is_scheme_rest cs) ≡ true → cond b (list_all is_iri_char (cs ++ y)) (is_scheme_char c && is_scheme_rest (cs ++ y)) ≡ true) [
      | true ↦ λ h. list_all-append is_iri_char cs y ∙ and_from _ _ h e
      | false ↦ λ h. let k = and_parts (is_scheme_char c) (is_scheme_rest cs) h in and_from _ _ k.0 (rest_goes_on cs y k.1 e)
    ] a

pub absolute_on : (x y : List ℕ) → is_absolute x ≡ true → list_all is_iri_char y ≡ true → is_absolute (x ++ y) ≡ true
absolute_on [] y a e = absurd (cc)
absolute_on (c ∷ cs) y a e = let k = and_parts (is_letter c) (is_scheme_rest cs) a in and_from _ _ k.0 (rest_goes_on cs y k.1 e)

-- how long its text is
pub iri_size : (x y : List ℕ) → length (text_of (Iri (x ++ y))) ≡ length x + length y + 2
iri_size x y = omega (arith, length-append (x ++ y) (62 ∷ []), length-append x y)

-- nothing is escaped
plain_escape : (c : ℕ) → is_plain c ≡ true → escape_of c ≡ c ∷ []
plain_escape c h = grind (arith, nat_tests)

pub plain_escaped : (x : List ℕ) → list_all is_plain x ≡ true → escaped x ≡ x
plain_escaped [] e = refl
plain_escaped (c ∷ cs) e =
    let k = and_parts (is_plain c) (list_all is_plain cs) e in
    ap₂ (λ u v. u ++ v) (plain_escape c k.0) (plain_escaped cs k.1)

-- the text of a literal of bytes that are not escaped
pub literal_text : (x after : List ℕ) → list_all is_plain x ≡ true → IsAfter after → 34 ∷ x ++ 34 ∷ after ≡ text_of (Literal x (kind_of after))
literal_text x after e a = sym (ap₂ (λ u v. 34 ∷ u ++ 34 ∷ v) (plain_escaped x e) a.stands)

pub literal_size : (x after : List ℕ) → list_all is_plain x ≡ true → IsAfter after → length (text_of (Literal x (kind_of after))) ≡ length x + length after + 2
literal_size x after e a = ap length (sym (literal_text x after e a)) ∙ omega (arith, length-append x (34 ∷ after))

-- the bytes of an IRI of two parts
pub iri_canonical : (x y bytes : List ℕ) → is_absolute x ≡ true → list_all is_iri_char y ≡ true → IsUtf8 x → IsUtf8 y → bytes ≡ text_of (Iri (x ++ y)) → length x + length y + 2 ≤ max_term_bytes → IsCanonical bytes
iri_canonical x y bytes a e u v b s = canonical (Iri (x ++ y)) bytes b (absolute_on x y a e) (IsUtf8-append x y u v) (omega (arith, ap length b, iri_size x y))

-- and those of a literal
pub literal_canonical : (x after bytes : List ℕ) → list_all is_plain x ≡ true → IsAfter after → IsUtf8 x → bytes ≡ 34 ∷ x ++ 34 ∷ after → length x + length after + 2 ≤ max_term_bytes → IsCanonical bytes
literal_canonical x after bytes e a u b s =
    canonical (Literal x (kind_of after)) bytes (b ∙ literal_text x after e a) a.formed (u, a.spelled) (omega (arith, ap length b, length-append x (34 ∷ after)))

-- the text of a term is canonical
pub text_is_canonical : (t : Term) (x : List ℕ) → x ≡ text_of t → IsTerm t → IsCanonical x
text_is_canonical t x e h =
    let Q : List ℕ → Type 0 = λ y. length y ≤ max_term_bytes in
    canonical t x e h.formed h.spelled (subst Q (sym e) h.short)

-- and the term of that text is the same
pub same_term : {E : Type 0} (t : Term) (x : List ℕ) (r : Result Term E) → x ≡ text_of t → IfOk r (λ u. u ≡ term_of x) → IfOk r (λ u. u ≡ t)
same_term t x (Ok u) e h = h ∙ term_of-bytes t x e
same_term t x (Err f) e h = tt
