-- A triple's line gives the triple back.
use Rattle.std.proofs.Common.{◌≡◌, ℕ, Bool, true, false, cond, not, nat_le, ◌||◌, ◌&&◌, ◌==◌, List, [], ◌∷◌, ◌++◌, refl, sym, ap, ◌∙◌, arith, append_assoc}
use Rattle.std.specs.List.{list_all}
use Rattle.std.proofs.lemmas.Bool.{eqb-true, and_parts}
use Rattle.std.proofs.lemmas.Bool.Decides.{nat_tests}
use Rattle.gs_model.specs.Characters.{is_iri_char}
use Rattle.gs_model.specs.Iris.{is_absolute, is_letter, is_scheme_char, is_scheme_rest}
use Rattle.std.specs.Str.{bytes_eq}
use Rattle.gs_model.specs.Terms.{Term, Iri, Blank, Literal, LiteralKind, Typed, Tagged, text_of, numeral, IsTerm, escape_of, escaped, is_tag_rest, is_kind, suffix, xsd_string}
use Rattle.gs_model.specs.Texts.{front, split_first, term_of}
use Rattle.gs_model.specs.Triples.{RdfTriple, IsTriple, line_of, is_subject, is_iri}
use Rattle.gs_model.proofs.TextLemmas.{AllOther, front-snoc, split_first-other, term_of-text_of, other-numeral}
use Rattle.gs_model.specs.Texts.{triple_of}

pub other-append : (x : ℕ) (xs ys : List ℕ) → AllOther x xs → AllOther x ys → AllOther x (xs ++ ys)
other-append x [] ys h k = k
other-append x (c ∷ cs) ys h k = (h.0, other-append x cs ys h.1 k)

-- where a test fails at x, what passes it is not x
not_equal : (p : ℕ → Bool) (x c : ℕ) → p x ≡ false → p c ≡ true → (c == x) ≡ false
not_equal p x c never h = elim (c == x) as (λ b. (c == x) ≡ b → b ≡ false) [ true ↦ λ e. let same : p c ≡ p x = ap p (eqb-true c x e) in absurd (cc) | false ↦ λ e. refl ] refl

others : (p : ℕ → Bool) (x : ℕ) → p x ≡ false → (cs : List ℕ) → list_all p cs ≡ true → AllOther x cs
others p x never [] h = tt
others p x never (c ∷ cs) h = let two = and_parts (p c) (list_all p cs) h in (not_equal p x c never two.0, others p x never cs two.1)

rest_others : (x : ℕ) → is_iri_char x ≡ false → is_scheme_char x ≡ false → (58 == x) ≡ false → (cs : List ℕ) → is_scheme_rest cs ≡ true → AllOther x cs
rest_others x a b d [] h = absurd (cc)
rest_others x a b d (c ∷ cs) h =
    elim (c == 58) as (λ t. (c == 58) ≡ t → cond t (list_all is_iri_char cs) (is_scheme_char c && is_scheme_rest cs) ≡ true → AllOther x (c ∷ cs)) [
      | true ↦ λ e k. (ap (λ z. z == x) (eqb-true c 58 e) ∙ d, others is_iri_char x a cs k)
      | false ↦ λ e k. let two = and_parts (is_scheme_char c) (is_scheme_rest cs) k in (not_equal is_scheme_char x c b two.0, rest_others x a b d cs two.1)
    ] refl h

-- an absolute IRI has no character that may not stand in it
pub absolute_others : (x : ℕ) → is_letter x ≡ false → is_iri_char x ≡ false → is_scheme_char x ≡ false → (58 == x) ≡ false → (cs : List ℕ) → is_absolute cs ≡ true → AllOther x cs
absolute_others x l a b d [] h = absurd (cc)
absolute_others x l a b d (c ∷ cs) h = let two = and_parts (is_letter c) (is_scheme_rest cs) h in (not_equal is_letter x c l two.0, rest_others x a b d cs two.1)

-- an IRI or a blank node has no space
pub no_space : (t : Term) → IsTerm t → is_subject t ≡ true → AllOther 32 (text_of t)
no_space (Iri text) ok s = (refl, other-append 32 text (62 ∷ []) (absolute_others 32 refl refl refl refl text ok.formed) (refl, tt))
no_space (Blank r k) ok s = (refl, (refl, (refl, other-append 32 (numeral r) (95 ∷ numeral k) (other-numeral 32 refl r) (refl, other-numeral 32 refl k))))
no_space (Literal lexical kind) ok s = absurd (cc)

iri_is_subject : (t : Term) → is_iri t ≡ true → is_subject t ≡ true
iri_is_subject (Iri text) h = refl
iri_is_subject (Blank r k) h = refl
iri_is_subject (Literal lexical kind) h = absurd (cc)

last_three : (xs : List ℕ) (a b c : ℕ) → front (front (front (xs ++ a ∷ b ∷ c ∷ []))) ≡ xs
last_three xs a b c =
    ap (λ z. front (front (front z))) (sym (append_assoc xs (a ∷ b ∷ []) (c ∷ []))) ∙ ap (λ z. front (front z)) (front-snoc (xs ++ a ∷ b ∷ []) c)
    ∙ ap (λ z. front (front z)) (sym (append_assoc xs (a ∷ []) (b ∷ []))) ∙ ap front (front-snoc (xs ++ a ∷ []) b) ∙ front-snoc xs a

pub triple_of-line_of : (t : RdfTriple) → IsTriple t → triple_of (line_of t) ≡ t
unfolding triple_of
triple_of-line_of t ok =
    let kinds = and_parts (is_subject t.subject) (is_iri t.predicate) ok.kinds in
    let ends = 32 ∷ 46 ∷ 10 ∷ [] in
    let after_p = text_of t.object ++ ends in
    let after_s = text_of t.predicate ++ (32 ∷ after_p) in
    let parted : line_of t ≡ text_of t.subject ++ (32 ∷ after_s) =
    append_assoc (text_of t.subject ++ 32 ∷ text_of t.predicate) (32 ∷ text_of t.object) ends ∙ append_assoc (text_of t.subject) (32 ∷ text_of t.predicate) (32 ∷ after_p) in
    let first : split_first 32 (line_of t) ≡ (text_of t.subject, after_s) = ap (split_first 32) parted ∙ split_first-other 32 (text_of t.subject) after_s (no_space t.subject ok.subject_is kinds.0) in
    let second : split_first 32 after_s ≡ (text_of t.predicate, after_p) = split_first-other 32 (text_of t.predicate) after_p (no_space t.predicate ok.predicate_is (iri_is_subject t.predicate kinds.1)) in
    let both_parts : split_first 32 (split_first 32 (line_of t)).1 ≡ (text_of t.predicate, after_p) = ap (λ q. split_first 32 q.1) first ∙ second in
    let s_is : term_of (split_first 32 (line_of t)).0 ≡ t.subject = ap (λ q. term_of q.0) first ∙ term_of-text_of t.subject in
    let p_is : term_of (split_first 32 (split_first 32 (line_of t)).1).0 ≡ t.predicate = ap (λ q. term_of q.0) both_parts ∙ term_of-text_of t.predicate in
    let o_is : term_of (front (front (front (split_first 32 (split_first 32 (line_of t)).1).1))) ≡ t.object =
    ap (λ q. term_of (front (front (front q.1)))) both_parts ∙ ap term_of (last_three (text_of t.object) 32 46 10) ∙ term_of-text_of t.object in
    λ i. record { subject = s_is i; predicate = p_is i; object = o_is i }

pub line_of-injective : (t u : RdfTriple) → IsTriple t → IsTriple u → line_of t ≡ line_of u → t ≡ u
line_of-injective t u a b e = sym (triple_of-line_of t a) ∙ ap triple_of e ∙ triple_of-line_of u b

escape_others : (c : ℕ) → AllOther 10 (escape_of c)
escape_others c =
    elim (c == 34) as (λ b. AllOther 10 (cond b (92 ∷ 34 ∷ []) (cond (c == 92) (92 ∷ 92 ∷ []) (cond (c == 10) (92 ∷ 110 ∷ []) (cond (c == 13) (92 ∷ 114 ∷ []) (c ∷ [])))))) [
      | true ↦ (refl, (refl, tt))
      | false ↦ elim (c == 92) as (λ b. AllOther 10 (cond b (92 ∷ 92 ∷ []) (cond (c == 10) (92 ∷ 110 ∷ []) (cond (c == 13) (92 ∷ 114 ∷ []) (c ∷ []))))) [
        | true ↦ (refl, (refl, tt))
        | false ↦ elim (c == 10) as (λ b. (c == 10) ≡ b → AllOther 10 (cond b (92 ∷ 110 ∷ []) (cond (c == 13) (92 ∷ 114 ∷ []) (c ∷ [])))) [
          | true ↦ λ e. (refl, (refl, tt))
          | false ↦ λ e. elim (c == 13) as (λ b. AllOther 10 (cond b (92 ∷ 114 ∷ []) (c ∷ []))) [ true ↦ (refl, (refl, tt)) | false ↦ (e, tt) ]
        ] refl
      ]
    ]

escaped_others : (cs : List ℕ) → AllOther 10 (escaped cs)
escaped_others [] = tt
escaped_others (c ∷ cs) = other-append 10 (escape_of c) (escaped cs) (escape_others c) (escaped_others cs)

tag_others : (d b : Bool) (t : List ℕ) → is_tag_rest d b t ≡ true → AllOther 10 t
tag_others d b [] h = tt
tag_others d b (c ∷ cs) h =
    elim ((nat_le 97 c && nat_le c 122) || (d && (nat_le 48 c && nat_le c 57))) as (λ x. ((nat_le 97 c && nat_le c 122) || (d && (nat_le 48 c && nat_le c 57))) ≡ x
    → cond x (is_tag_rest d true cs) ((c == 45 && b) && is_tag_rest true false cs) ≡ true → AllOther 10 (c ∷ cs)) [
      | true ↦ λ e k. (grind (arith, nat_tests), tag_others d true cs k)
      | false ↦ λ e k. let two = and_parts (c == 45 && b) (is_tag_rest true false cs) k in (grind (arith, nat_tests, two.0), tag_others true false cs two.1)
    ] refl h

kind_others : (k : LiteralKind) → is_kind k ≡ true → AllOther 10 (suffix k)
unfolding suffix
kind_others (Tagged t) ok = (refl, tag_others false false t ok)
kind_others (Typed d) ok =
    elim (bytes_eq d xsd_string) as (λ b. AllOther 10 (cond b [] (94 ∷ 94 ∷ 60 ∷ d ++ 62 ∷ []))) [
      | true ↦ tt
      | false ↦ (refl, (refl, (refl, other-append 10 d (62 ∷ []) (absolute_others 10 refl refl refl refl d ok) (refl, tt))))
    ]

-- no term's text has a line feed
pub no_line_feed : (t : Term) → IsTerm t → AllOther 10 (text_of t)
no_line_feed (Iri text) ok = (refl, other-append 10 text (62 ∷ []) (absolute_others 10 refl refl refl refl text ok.formed) (refl, tt))
no_line_feed (Blank r k) ok = (refl, (refl, (refl, other-append 10 (numeral r) (95 ∷ numeral k) (other-numeral 10 refl r) (refl, other-numeral 10 refl k))))
no_line_feed (Literal lexical kind) ok = (refl, other-append 10 (escaped lexical) (34 ∷ suffix kind) (escaped_others lexical) (refl, kind_others kind ok.formed))

pub list_all-other : (x : ℕ) (xs : List ℕ) → AllOther x xs → list_all (λ c. not (c == x)) xs ≡ true
list_all-other x [] h = refl
list_all-other x (c ∷ cs) h = ap (λ b. not b && list_all (λ c. not (c == x)) cs) h.0 ∙ list_all-other x cs h.1
