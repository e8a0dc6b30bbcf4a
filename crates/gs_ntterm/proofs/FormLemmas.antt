-- A token's form, byte by byte, is that of the whole token.
use Rattle.std.proofs.Common.{◌≡◌, ℕ, Bool, true, false, List, [], ◌∷◌, ◌++◌, map, refl, ap, ◌∙◌, cond, arith}
use Rattle.std.specs.Prelude.{◌==◌, ◌&&◌, ◌||◌}
use Rattle.std.specs.Char.{to_ascii_lowercase}
use Rattle.std.specs.List.{list_all}
use Rattle.std.specs.Str.{str_to_ascii_lowercase}
use Rattle.std.proofs.lemmas.Bool.Decides.{nat_tests}
use Rattle.gs_model.specs.Characters.{hyphen, colon, is_lower, is_digit, is_iri_char}
use Rattle.gs_model.specs.Iris.{is_letter, is_scheme_char, is_scheme_rest, is_absolute}
use Rattle.gs_model.specs.Terms.{is_tag, is_tag_rest}
use Rattle.gs_ntterm.specs.Classes.{is_tag_char}
use Rattle.gs_ntterm.specs.Forms.{scheme_after, tag_after_byte, form_on, form_after, form_of, is_absolute_form, is_tag_form}
use Rattle.gs_ntterm.proofs.Branches.{two_ways, by_test}
use Rattle.gs_ntterm.specs.declared.forms.Scheme.{Scheme}
use Rattle.gs_ntterm.specs.declared.forms.Scheme.TheVariants as scheme
use Rattle.gs_ntterm.specs.declared.forms.Tag.{Tag}
use Rattle.gs_ntterm.specs.declared.forms.Tag.TheVariants as tag
use Rattle.gs_ntterm.specs.declared.forms.Form.{Form}

pub form_after-append : (f : Form) (a b : List ℕ) → form_after f (a ++ b) ≡ form_after (form_after f a) b
form_after-append f [] b = refl
form_after-append f (x ∷ xs) b = form_after-append (form_on f x) xs b

broken_scheme : (t : Tag) (x : List ℕ) → is_absolute_form (form_after (record { scheme = scheme.Broken; tag = t }) x) ≡ false
broken_scheme t [] = refl
broken_scheme t (b ∷ bs) = broken_scheme (tag_after_byte t b) bs

after_colon : (t : Tag) (x : List ℕ) → is_absolute_form (form_after (record { scheme = scheme.AfterColon; tag = t }) x) ≡ list_all is_iri_char x
after_colon t [] = refl
after_colon t (b ∷ bs) =
    by_test (λ z. is_absolute_form (form_after (record { scheme = z; tag = tag_after_byte t b }) bs)) (λ v. v && list_all is_iri_char bs) (is_iri_char b) _ _
    (after_colon (tag_after_byte t b) bs) (broken_scheme (tag_after_byte t b) bs)

inside_scheme : (t : Tag) (x : List ℕ) → is_absolute_form (form_after (record { scheme = scheme.Inside; tag = t }) x) ≡ is_scheme_rest x
inside_scheme t [] = refl
inside_scheme t (b ∷ bs) =
    let u = tag_after_byte t b in
    two_ways (λ z. is_absolute_form (form_after (record { scheme = z; tag = u }) bs)) (λ v. v) (b == colon) _ _ _ _
    (after_colon u bs)
    (by_test (λ z. is_absolute_form (form_after (record { scheme = z; tag = u }) bs)) (λ v. v && is_scheme_rest bs) (is_scheme_char b) _ _
    (inside_scheme u bs) (broken_scheme u bs))

pub absolute_by_form : (x : List ℕ) → is_absolute_form (form_of x) ≡ is_absolute x
absolute_by_form [] = refl
absolute_by_form (b ∷ bs) =
    let u = tag_after_byte (tag.Part false false) b in
    by_test (λ z. is_absolute_form (form_after (record { scheme = z; tag = u }) bs)) (λ v. v && is_scheme_rest bs) (is_letter b) _ _
    (inside_scheme u bs) (broken_scheme u bs)

broken_tag : (s : Scheme) (x : List ℕ) → is_tag_form (form_after (record { scheme = s; tag = tag.Broken }) x) ≡ false
broken_tag s [] = refl
broken_tag s (b ∷ bs) = broken_tag (scheme_after s b) bs

-- the letters, digits and hyphens of a tag are those of the tag in lower case
same_part : (d e : Bool) (b : ℕ) → let c = to_ascii_lowercase b in
    tag_after_byte (tag.Part d e) b ≡ cond (is_lower c || (d && is_digit c)) (tag.Part d true) (cond (c == hyphen && e) (tag.Part true false) tag.Broken)
same_part d e b =
    let c = to_ascii_lowercase b in
    let part : is_tag_char d b ≡ (is_lower c || (d && is_digit c)) = grind (arith, nat_tests) in
    let mark : (b == hyphen) ≡ (c == hyphen) = grind (arith, nat_tests) in
    ap (λ v. cond v (tag.Part d true) (cond (b == hyphen && e) (tag.Part true false) tag.Broken)) part
    ∙ ap (λ v. cond (is_lower c || (d && is_digit c)) (tag.Part d true) (cond (v && e) (tag.Part true false) tag.Broken)) mark

in_tag : (s : Scheme) (d e : Bool) (x : List ℕ) → is_tag_form (form_after (record { scheme = s; tag = tag.Part d e }) x) ≡ is_tag_rest d e (map to_ascii_lowercase x)
in_tag s d e [] = refl
in_tag s d e (b ∷ bs) =
    let c = to_ascii_lowercase b in
    let w = scheme_after s b in
    let shown : Tag → Bool = λ z. is_tag_form (form_after (record { scheme = w; tag = z }) bs) in
    ap shown (same_part d e b)
    ∙ two_ways shown (λ v. v) (is_lower c || (d && is_digit c)) _ _ _ _
    (in_tag w d true bs)
    (by_test shown (λ v. v && is_tag_rest true false (map to_ascii_lowercase bs)) (c == hyphen && e) _ _ (in_tag w true false bs) (broken_tag w bs))

pub tag_by_form : (x : List ℕ) → is_tag_form (form_of x) ≡ is_tag (str_to_ascii_lowercase x)
tag_by_form x = in_tag scheme.Unbegun false false x
