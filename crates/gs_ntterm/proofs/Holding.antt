-- A token that is dropped where it is too long is read as the whole token is.
use Rattle.std.proofs.Common.{◌≡◌, ℕ, ◌+◌, ◌<◌, ◌≤◌, Bool, true, false, cond, List, [], ◌∷◌, ◌++◌, length, length-append, refl, sym, ap, ◌∙◌, arith, Ok, Err}
use Rattle.std.specs.Prelude.{nat_le, ◌==◌}
use Rattle.std.specs.Char.{to_ascii_lowercase}
use Rattle.std.proofs.lemmas.List.{length-map}
use Rattle.std.specs.Str.{str_to_ascii_lowercase, bytes_eq}
use Rattle.std.proofs.lemmas.Bool.Decides.{nat_tests}
use Rattle.gs_model.specs.Terms.{Term, Iri, Literal, LiteralKind, Typed, Tagged, xsd_string, is_kind, is_term, text_of, escaped, escape_of, suffix}
use Rattle.gs_model.specs.Limits.{max_term_bytes}
use Rattle.gs_model.specs.declared.faults.Fault.TheVariants.{Syntax, TermTooLong}
use Rattle.gs_term.specs.Making.{made}
use Rattle.gs_model.proofs.TextLemmas.{same_text}
use Rattle.gs_term.proofs.MakingLemmas.{suffix_other, suffix_tag}
use Rattle.gs_ntterm.specs.Forms.{form_of, form_after, is_absolute_form, is_tag_form}
use Rattle.gs_ntterm.proofs.FormLemmas.{form_after-append, absolute_by_form, tag_by_form}
use Rattle.gs_ntterm.specs.LineTerms.{iri_made, plain_made, typed_made, tagged_made}
use Rattle.gs_ntterm.specs.declared.forms.Form.{Form}
use Rattle.gs_ntterm.specs.Views.{held_form}
use Rattle.gs_ntterm.specs.Tokens.{Text, Long, hold, add, iri_held, literal_held, typed_held, tagged_held, plain_held}

abbrev fits : List ℕ → Bool
fits t = nat_le (length t) max_term_bytes

longer : (t more : List ℕ) → fits t ≡ false → fits (t ++ more) ≡ false
longer t more h = let k = length-append t more in grind (arith, nat_tests)

pub add-hold : (t more : List ℕ) → add (hold t) more ≡ hold (t ++ more)
add-hold t more = by_fit (fits t) refl
  where
    by_fit : (b : Bool) → fits t ≡ b → add (cond b (Text t) (Long (form_of t))) more ≡ hold (t ++ more)
    by_fit true h = refl
    by_fit false h =
        ap Long (sym (form_after-append (form_of []) t more))
        ∙ ap (λ b. cond b (Text (t ++ more)) (Long (form_of (t ++ more)))) (sym (longer t more h))

-- a text that is as long as a token for which no term has room
outgrown : (t text : List ℕ) → length t ≤ length text → fits t ≡ false → nat_le (length text) max_term_bytes ≡ false
outgrown t text l h = grind (arith, nat_tests)

-- a term of a form that was tested byte by byte, where its text is too long
long_form : (t : Term) (v : Bool) → v ≡ is_term t → nat_le (length (text_of t)) max_term_bytes ≡ false → cond v (Err TermTooLong) (Err Syntax) ≡ made t
long_form t v e h =
    ap (λ v. cond v (Err TermTooLong) (Err Syntax)) e
    ∙ ap (λ b. cond (is_term t) (cond b (Ok t) (Err TermTooLong)) (Err Syntax)) (sym h)

iri_length : (t : List ℕ) → length t ≤ length (text_of (Iri t))
iri_length t = omega (arith, length-append t (62 ∷ []))

pub iri_held-hold : (t : List ℕ) → iri_held (hold t) ≡ iri_made t
iri_held-hold t = by_fit (fits t) refl
  where
    by_fit : (b : Bool) → fits t ≡ b → iri_held (cond b (Text t) (Long (form_of t))) ≡ made (Iri t)
    by_fit true h = refl
    by_fit false h = long_form (Iri t) (is_absolute_form (form_of t)) (absolute_by_form t) (outgrown t (text_of (Iri t)) (iri_length t) h)

escape_length : (c : ℕ) → 1 ≤ length (escape_of c)
escape_length c = one (c == 34) (c == 92) (c == 10) (c == 13)
  where
    one : (p q r s : Bool) → 1 ≤ length (cond p (92 ∷ 34 ∷ []) (cond q (92 ∷ 92 ∷ []) (cond r (92 ∷ 110 ∷ []) (cond s (92 ∷ 114 ∷ []) (c ∷ [])))))
    one true q r s = omega arith
    one false true r s = omega arith
    one false false true s = omega arith
    one false false false true = omega arith
    one false false false false = omega arith

escaped_length : (l : List ℕ) → length l ≤ length (escaped l)
escaped_length [] = omega arith
escaped_length (c ∷ cs) = omega (arith, escape_length c, escaped_length cs, length-append (escape_of c) (escaped cs))

literal_length : (l : List ℕ) (k : LiteralKind) → length l ≤ length (text_of (Literal l k))
literal_length l k = omega (arith, escaped_length l, length-append (escaped l) (34 ∷ suffix k), length-append (34 ∷ escaped l) (34 ∷ suffix k))

pub literal_held-hold : (l : List ℕ) (k : LiteralKind) → literal_held (hold l) k ≡ made (Literal l k)
literal_held-hold l k = by_fit (fits l) refl
  where
    too_long : fits l ≡ false → nat_le (length (text_of (Literal l k))) max_term_bytes ≡ false
    too_long h = let k2 = literal_length l k in grind (arith, nat_tests)

    by_fit : (b : Bool) → fits l ≡ b → literal_held (cond b (Text l) (Long (form_of l))) k ≡ made (Literal l k)
    by_fit true h = refl
    by_fit false h = ap (λ b. cond (is_kind k) (cond b (Ok (Literal l k)) (Err TermTooLong)) (Err Syntax)) (sym (too_long h))

pub plain_held-hold : (l : List ℕ) → plain_held (hold l) ≡ plain_made l
plain_held-hold l = literal_held-hold l (Typed xsd_string)

-- a datatype that is longer than `xsd:string` is written
datatype_length : (l d : List ℕ) → fits d ≡ false → length d ≤ length (text_of (Literal l (Typed d)))
datatype_length l d h = by_name (bytes_eq d xsd_string) refl
  where
    by_name : (b : Bool) → bytes_eq d xsd_string ≡ b → length d ≤ length (text_of (Literal l (Typed d)))
    by_name true e =
        let n : length d ≡ 39 = ap length (same_text d xsd_string e) in
        absurd (grind (arith, nat_tests))
    by_name false e =
        let s : length (suffix (Typed d)) ≡ length (94 ∷ 94 ∷ 60 ∷ d ++ 62 ∷ []) = ap length (suffix_other d (sym e)) in
        omega (arith, s, length-append d (62 ∷ []), length-append (34 ∷ escaped l) (34 ∷ suffix (Typed d)))

pub typed_held-hold : (l d : List ℕ) → typed_held (hold l) (hold d) ≡ typed_made l d
typed_held-hold l d = by_fit (fits d) refl
  where
    by_fit : (b : Bool) → fits d ≡ b → typed_held (hold l) (cond b (Text d) (Long (form_of d))) ≡ made (Literal l (Typed d))
    by_fit true h = literal_held-hold l (Typed d)
    by_fit false h = long_form (Literal l (Typed d)) (is_absolute_form (form_of d)) (absolute_by_form d) (outgrown d (text_of (Literal l (Typed d))) (datatype_length l d h) h)

tag_length : (l t : List ℕ) → length t ≤ length (text_of (Literal l (Tagged (str_to_ascii_lowercase t))))
tag_length l t = omega (arith, ap length (suffix_tag (str_to_ascii_lowercase t)), length-map t to_ascii_lowercase, length-append (34 ∷ escaped l) (34 ∷ suffix (Tagged (str_to_ascii_lowercase t))))

pub tagged_held-hold : (l t : List ℕ) → tagged_held (hold l) (hold t) ≡ tagged_made l t
tagged_held-hold l t = by_fit (fits t) refl
  where
    k : LiteralKind
    k = Tagged (str_to_ascii_lowercase t)

    by_fit : (b : Bool) → fits t ≡ b → tagged_held (hold l) (cond b (Text t) (Long (form_of t))) ≡ made (Literal l k)
    by_fit true h = literal_held-hold l k
    by_fit false h = long_form (Literal l k) (is_tag_form (form_of t)) (tag_by_form t) (outgrown t (text_of (Literal l k)) (tag_length l t) h)

-- a token for which no term has room any more
pub add-grown : (long : Bool) (f : Form) (t more : List ℕ) → long ≡ false → max_term_bytes < length t + length more → Long (form_after (form_of t) more) ≡ add (held_form long f t) more
add-grown true f t more e h = absurd (Prim.cc)
add-grown false f t more e h =
    let n = length-append t more in
    let k : fits (t ++ more) ≡ false = grind (arith, nat_tests) in
    ap Long (sym (form_after-append (form_of []) t more)) ∙ ap (λ b. cond b (Text (t ++ more)) (Long (form_of (t ++ more)))) (sym k)
