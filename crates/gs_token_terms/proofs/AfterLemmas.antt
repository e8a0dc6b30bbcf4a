-- What stands after the closing quotes of plain literals, and plain strings.
use Rattle.std.proofs.Common.{◌≡◌, ℕ, Bool, true, false, cond, List, [], ◌∷◌, ◌++◌, length, drop, refl, sym, ap, ap₂, ◌∙◌, subst, arith}
use Rattle.std.specs.Prelude.{Some, codes, option_map, nat_lt, ◌==◌, ◌&&◌, ◌||◌}
use Rattle.std.specs.List.{list_all}
use Rattle.std.specs.Char.{to_ascii_lowercase}
use Rattle.std.specs.Str.{is_utf8, chars, bytes_eq, str_to_ascii_lowercase}
use Rattle.std.proofs.lemmas.Str.{IsUtf8-from_is_utf8}
use Rattle.std.proofs.lemmas.Bool.{and_parts, eqb-true}
use Rattle.std.proofs.lemmas.Bool.Decides.{nat_tests}
use lib.Utf8.{encode}
use Rattle.gs_model.specs.Characters.{is_lower, is_digit}
use Rattle.gs_model.specs.Terms.{Term, Iri, Blank, Literal, LiteralKind, Typed, Tagged, xsd_string, suffix, text_of, is_kind, IsKindText, is_tag, is_tag_rest, IsTerm}
use Rattle.gs_model.specs.Texts.{front, kind_of}
use Rattle.gs_model.specs.Triples.{is_iri}
use Rattle.gs_model.proofs.TextLemmas.{front-snoc, same_text, kind_of-suffix}
use Rattle.gs_escape.specs.Tokens.{string_of, rest_after}
use Rattle.gs_term.specs.Making.{made}
use Rattle.gs_term.proofs.MakingLemmas.{suffix_other, suffix_tag}
use Rattle.gs_triples.specs.Meanings.{made_of, simple, tagged, tagged_literal}
use Rattle.gs_triples.specs.Symbols.{xsd}
use Rattle.gs_token_terms.specs.Plain.{is_small_tag, iri_name, IsAfter, IsPlainString}

-- after a string alone
pub nothing_after : IsAfter []
unfolding suffix is_utf8 chars encode
nothing_after = record { stands = refl; formed = refl; spelled = IsUtf8-from_is_utf8 xsd_string refl }

-- and after numbers and booleans
pub integer_after : IsAfter (codes "^^<http://www.w3.org/2001/XMLSchema#integer>")
unfolding suffix is_utf8 chars encode
integer_after = record { stands = refl; formed = refl; spelled = IsUtf8-from_is_utf8 (xsd (codes "integer")) refl }

pub decimal_after : IsAfter (codes "^^<http://www.w3.org/2001/XMLSchema#decimal>")
unfolding suffix is_utf8 chars encode
decimal_after = record { stands = refl; formed = refl; spelled = IsUtf8-from_is_utf8 (xsd (codes "decimal")) refl }

pub double_after : IsAfter (codes "^^<http://www.w3.org/2001/XMLSchema#double>")
unfolding suffix is_utf8 chars encode
double_after = record { stands = refl; formed = refl; spelled = IsUtf8-from_is_utf8 (xsd (codes "double")) refl }

pub boolean_after : IsAfter (codes "^^<http://www.w3.org/2001/XMLSchema#boolean>")
unfolding suffix is_utf8 chars encode
boolean_after = record { stands = refl; formed = refl; spelled = IsUtf8-from_is_utf8 (xsd (codes "boolean")) refl }

-- what stands after the literals of a kind
after_kind : (k : LiteralKind) (bytes : List ℕ) → bytes ≡ suffix k → is_kind k ≡ true → IsKindText k → IsAfter bytes
after_kind k bytes e f u =
    let same : kind_of bytes ≡ k = ap kind_of e ∙ kind_of-suffix k in
    record {
      stands = ap suffix same ∙ sym e;
      formed = ap is_kind same ∙ f;
      spelled = subst IsKindText (sym same) u;
    }

-- a string that stands for itself
pub plain_simple : (x form : List ℕ) → IsPlainString x form → made (Literal form (Typed xsd_string)) ≡ simple x
unfolding simple made_of
plain_simple x form p = sym (ap (λ o. made_of (option_map (λ (y : List ℕ). Literal y (Typed xsd_string)) o)) p.meant)

-- an IRI in its marks
known_name : (t : Term) → is_iri t ≡ true → t ≡ Iri (iri_name t)
known_name (Iri x) e = refl
known_name (Blank r k) e = absurd (cc)
known_name (Literal x k) e = absurd (cc)

abbrev string_name : List ℕ
string_name = codes "<http://www.w3.org/2001/XMLSchema#string>"

module _ (t : Term) (name : List ℕ) (e : is_iri t ≡ true) (is : name ≡ text_of t) where
  marked : name ≡ 60 ∷ iri_name t ++ 62 ∷ []
  marked = is ∙ ap text_of (known_name t e)

  -- the datatype that a text leaves out
  pub string_named : bytes_eq name string_name ≡ true → xsd_string ≡ iri_name t
  string_named h = sym (front-snoc xsd_string 62) ∙ ap (λ z. front (drop 1 z)) (sym (same_text name string_name h) ∙ marked) ∙ front-snoc (iri_name t) 62

  other : bytes_eq name string_name ≡ false → false ≡ bytes_eq (iri_name t) xsd_string
  other h = by_name (bytes_eq (iri_name t) xsd_string) refl
    where
      by_name : (b : Bool) → bytes_eq (iri_name t) xsd_string ≡ b → false ≡ b
      by_name false k = refl
      by_name true k = sym h ∙ ap (λ z. bytes_eq z string_name) (marked ∙ ap (λ z. 60 ∷ z ++ 62 ∷ []) (same_text (iri_name t) xsd_string k))

  named_suffix : bytes_eq name string_name ≡ false → 94 ∷ 94 ∷ name ≡ suffix (Typed (iri_name t))
  named_suffix h = ap (λ z. 94 ∷ 94 ∷ z) marked ∙ sym (suffix_other (iri_name t) (other h))

  -- and any other
  pub named_after : IsTerm t → bytes_eq name string_name ≡ false → IsAfter (94 ∷ 94 ∷ name)
  named_after v h =
      let P : Term → Type 0 = λ u. IsTerm u in
      let w : IsTerm (Iri (iri_name t)) = subst P (known_name t e) v in
      after_kind (Typed (iri_name t)) (94 ∷ 94 ∷ name) (named_suffix h) w.formed w.spelled

  pub named_kind : bytes_eq name string_name ≡ false → kind_of (94 ∷ 94 ∷ name) ≡ Typed (iri_name t)
  named_kind h = ap kind_of (named_suffix h) ∙ kind_of-suffix (Typed (iri_name t))

-- small letters are a language tag, in lower case
tag_rest : (x : List ℕ) → list_all is_lower x ≡ true → is_tag_rest false true x ≡ true
tag_rest [] e = refl
tag_rest (c ∷ cs) e =
    let k = and_parts (is_lower c) (list_all is_lower cs) e in
    ap (λ b. cond (b || (false && is_digit c)) (is_tag_rest false true cs) (((c == 45) && true) && is_tag_rest true false cs)) k.0 ∙ tag_rest cs k.1

tag_formed : (x : List ℕ) → list_all is_lower x ≡ true → nat_lt 0 (length x) ≡ true → is_tag x ≡ true
tag_formed [] e l = absurd (cc)
tag_formed (c ∷ cs) e l =
    let k = and_parts (is_lower c) (list_all is_lower cs) e in
    ap (λ b. cond (b || (false && is_digit c)) (is_tag_rest false true cs) (((c == 45) && false) && is_tag_rest true false cs)) k.0 ∙ tag_rest cs k.1

lower_still : (c : ℕ) → is_lower c ≡ true → to_ascii_lowercase c ≡ c
lower_still c h = grind (arith, nat_tests)

all_lower : (x : List ℕ) → list_all is_lower x ≡ true → str_to_ascii_lowercase x ≡ x
all_lower [] e = refl
all_lower (c ∷ cs) e =
    let k = and_parts (is_lower c) (list_all is_lower cs) e in
    ap₂ (λ u v. u ∷ v) (lower_still c k.0) (all_lower cs k.1)

-- a tag of small letters, after its mark
small_by : (c : ℕ) (cs : List ℕ) → is_small_tag (c ∷ cs) ≡ true → (c ≡ 64) × (is_tag cs ≡ true) × (str_to_ascii_lowercase cs ≡ cs)
small_by c cs e =
    let k = and_parts (c == 64 && nat_lt 0 (length cs)) (list_all is_lower cs) e in
    let m = and_parts (c == 64) (nat_lt 0 (length cs)) k.0 in
    (eqb-true c 64 m.0, tag_formed cs k.1 m.1, all_lower cs k.1)

pub small_after : (x : List ℕ) → is_small_tag x ≡ true → IsAfter x
small_after [] e = absurd (cc)
small_after (c ∷ cs) e = let k = small_by c cs e in after_kind (Tagged cs) (c ∷ cs) (ap (λ z. z ∷ cs) k.0 ∙ sym (suffix_tag cs)) k.1 tt

-- a string that stands for itself, with such a tag
pub small_tagged : (x form tag : List ℕ) → IsPlainString x form → is_small_tag tag ≡ true → made (Literal form (kind_of tag)) ≡ tagged x tag
unfolding tagged made_of
small_tagged x form [] p e = absurd (cc)
small_tagged x form (c ∷ cs) p e =
    let k = small_by c cs e in
    let known : made_of (tagged_literal (Some form) (Some cs)) ≡ made (Literal form (Tagged cs)) = ap (λ z. made (Literal form (Tagged z))) k.2 in
    ap (λ z. made (Literal form (kind_of (z ∷ cs)))) k.0
    ∙ sym known
    ∙ ap (λ o. made_of (tagged_literal o (Some cs))) (sym p.meant)
    ∙ ap (λ z. made_of (tagged_literal (string_of x) (rest_after (codes "@") (z ∷ cs)))) (sym k.0)
