-- The meaning of an IRI's text has IRI characters alone.
use Rattle.std.proofs.Common.{◌≡◌, ℕ, zero, suc, ◌==◌, Bool, true, false, cond, ◌&&◌, List, [], ◌∷◌, ◌++◌, refl, sym, ap, ◌∙◌, subst, append-nil}
use Rattle.std.specs.Prelude.{Option, Some, None, option_and_then, encode_utf8, if◌then◌else◌}
use Rattle.std.specs.List.{list_all}
use Rattle.std.specs.Str.{is_utf8}
use Rattle.std.proofs.lemmas.List.Folds.{list_all-append}
use Rattle.std.proofs.Math.Bool.{and-true}
use Rattle.std.proofs.lemmas.Bool.{and_from}
use lib.Utf8.{encode}
use Rattle.gs_model.specs.Characters.{is_iri_char}
use Rattle.gs_iri.proofs.AbsoluteLemmas.{absolute_encodes}
use Rattle.gs_escape.specs.declared.forms.Form.TheVariants as form
use Rattle.gs_escape.specs.Escapes.{Escape, uchar, iri_escape}
use Rattle.gs_escape.specs.Meanings.{meant_after, unescaped, meaning}
use Rattle.gs_escape.specs.Tokens.{between, iri_of}

abbrev AllIri : List ℕ → Type 0
AllIri x = list_all is_iri_char x ≡ true

-- the bytes of an IRI character, by the test of an absolute IRI that ends in it
iri_encode : (c : ℕ) → list_all is_iri_char (encode c ++ []) ≡ (is_iri_char c && true)
unfolding encode
iri_encode c = absolute_encodes (97 ∷ 58 ∷ c ∷ [])

all_encode : (c : ℕ) → is_iri_char c ≡ true → AllIri (encode_utf8 c)
all_encode c h = ap (list_all is_iri_char) (sym (append-nil (encode c))) ∙ iri_encode c ∙ and-true (is_iri_char c) ∙ h

all_before : (u : List ℕ) (m : Option (List ℕ)) (v : List ℕ) → AllIri u → ((w : List ℕ) → m ≡ Some w → AllIri w) → meant_after u m ≡ Some v → AllIri v
all_before u None v h ih e = absurd (cc)
all_before u (Some w) v h ih e =
    let same : u ++ w ≡ v = cc in
    subst AllIri same (list_all-append is_iri_char u w ∙ and_from _ _ h (ih w refl))

kept : (b : Bool) (d e : Escape) → is_iri_char d.0 ≡ b → cond b (Some d) None ≡ Some e → is_iri_char e.0 ≡ true
kept true d e h k = ap (λ z. is_iri_char z.0) (let same : e ≡ d = cc in same) ∙ h
kept false d e h k = absurd (cc)

escape_kept : (o : Option Escape) (e : Escape) → option_and_then (λ d. if is_iri_char d.0 then Some d else None) o ≡ Some e → is_iri_char e.0 ≡ true
escape_kept None e k = absurd (cc)
escape_kept (Some d) e k = kept (is_iri_char d.0) d e refl k

iri_escape_char : (x : List ℕ) (e : Escape) → iri_escape x ≡ Some e → is_iri_char e.0 ≡ true
unfolding iri_escape
iri_escape_char x e k = escape_kept (uchar x) e k

all_escaped : (cs : List ℕ) (o : Option Escape) (v : List ℕ) → iri_escape cs ≡ o → ((n : ℕ) (w : List ℕ) → unescaped form.IriRef n cs ≡ Some w → AllIri w)
    → option_and_then (λ e. meant_after (encode_utf8 e.0) (unescaped form.IriRef e.1 cs)) o ≡ Some v → AllIri v
all_escaped cs None v h ih e = absurd (cc)
all_escaped cs (Some d) v h ih e = all_before (encode_utf8 d.0) (unescaped form.IriRef d.1 cs) v (all_encode d.0 (iri_escape_char cs d h)) (ih d.1) e

all_first : (c : ℕ) (cs v : List ℕ) (a b : Bool) → is_iri_char c ≡ a → ((n : ℕ) (w : List ℕ) → unescaped form.IriRef n cs ≡ Some w → AllIri w)
    → cond a (meant_after (c ∷ []) (unescaped form.IriRef 0 cs)) (cond b (option_and_then (λ e. meant_after (encode_utf8 e.0) (unescaped form.IriRef e.1 cs)) (iri_escape cs)) None) ≡ Some v → AllIri v
all_first c cs v true b h ih e = all_before (c ∷ []) (unescaped form.IriRef 0 cs) v (and_from _ _ h refl) (ih 0) e
all_first c cs v false true h ih e = all_escaped cs (iri_escape cs) v refl ih e
all_first c cs v false false h ih e = absurd (cc)

all_unescaped : (n : ℕ) (x v : List ℕ) → unescaped form.IriRef n x ≡ Some v → AllIri v
unfolding unescaped
all_unescaped n [] v e = let same : [] ≡ v = cc in subst AllIri same refl
all_unescaped (suc n) (c ∷ cs) v e = all_unescaped n cs v e
all_unescaped zero (c ∷ cs) v e = all_first c cs v (is_iri_char c) (c == 92) refl (λ n w. all_unescaped n cs w) e

all_meaning : (b : Bool) (x v : List ℕ) → cond b (unescaped form.IriRef 0 x) None ≡ Some v → AllIri v
all_meaning true x v e = all_unescaped 0 x v e
all_meaning false x v e = absurd (cc)

all_between : (o : Option (List ℕ)) (v : List ℕ) → option_and_then (meaning form.IriRef) o ≡ Some v → AllIri v
all_between None v e = absurd (cc)
all_between (Some y) v e = all_meaning (is_utf8 y) y v e

pub iri_of-characters : (x v : List ℕ) → iri_of x ≡ Some v → list_all is_iri_char v ≡ true
unfolding iri_of
iri_of-characters x v e = all_between (between (60 ∷ []) (62 ∷ []) x) v e
