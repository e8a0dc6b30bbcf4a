use Rattle.std.proofs.Common.{◌≡◌, ◌++◌, ◌∷◌, [], ◌∙◌, ℕ, List, Vec, Global, length, ap, sym, subst, arith}
use Rattle.std.specs.Prelude.{Some, option_map, string_bytes}
use Rattle.std.specs.Str.{IsUtf8}
use Rattle.std.proofs.lemmas.Str.{IsUtf8-string_bytes}
use Rattle.gs_model.specs.Terms.{Iri, text_of}
use Rattle.gs_model.specs.Triples.{is_iri}
use Rattle.gs_iri.specs.Resolving.{resolved}
use Rattle.gs_iri.proofs.SchemeLemmas.{resolved_absolute}
use Rattle.gs_term.proofs.MakingLemmas.{term_of-bytes}
use Rattle.gs_token_terms.proofs.BufferLemmas.{too_long, short_enough}
use Rattle.gs_token_terms.proofs.IriLemmas.{iri_length, resolved_canonical}
use Rattle.gs_token_terms.proofs.iris.resolved_iri.Goals as goal

pub returns-then-size-gt-MAX_TERM_BYTES-clause-value : goal.returns-then-size-gt-MAX_TERM_BYTES-clause-value
returns-then-size-gt-MAX_TERM_BYTES-clause-value c =
    let whole = resolved c.args.base.now c.args.reference.now in
    let known : Some (string_bytes c.in-Some.text) ≡ Some (60 ∷ whole) = ap (option_map string_bytes) (sym c.in-Some.is) ∙ c.in_ok-text.ensures in
    let is : string_bytes c.in-Some.text ≡ 60 ∷ whole = cc in
    too_long (Iri whole) _ (resolved_absolute c.args.base.now c.args.reference.now c.requires.absolute c.requires.characters) (iri_length whole) (omega (arith, ap length is, c.in-Some.text.bytes.ok.0))

pub from_canonical-requires : goal.from_canonical-requires
from_canonical-requires c =
    let whole = resolved c.args.base.now c.args.reference.now in
    let known : Some (string_bytes c.in-Some.text) ≡ Some (60 ∷ whole) = ap (option_map string_bytes) (sym c.in-Some.is) ∙ c.in_ok-text.ensures in
    let is : string_bytes c.in-Some.text ≡ 60 ∷ whole = cc in
    let bytes : c.into_bytes.result.items ≡ text_of (Iri whole) = ap (λ (v : Vec ℕ Global). v.items) c.into_bytes.ensures.value ∙ c.in_ok-push_str.ensures.bytes ∙ ap (λ (x : List ℕ). x ++ 62 ∷ []) is in
    resolved_canonical c.args.base.now c.args.reference.now c.into_bytes.result.items c.requires.absolute c.requires.characters (subst IsUtf8 is (IsUtf8-string_bytes c.in-Some.text)) bytes
    (omega (arith, ap length is, c.in-Some.text.bytes.ok.0))

pub returns-clause-value : goal.returns-clause-value
returns-clause-value c =
    let whole = resolved c.args.base.now c.args.reference.now in
    let known : Some (string_bytes c.in-Some.text) ≡ Some (60 ∷ whole) = ap (option_map string_bytes) (sym c.in-Some.is) ∙ c.in_ok-text.ensures in
    let is : string_bytes c.in-Some.text ≡ 60 ∷ whole = cc in
    let bytes : c.into_bytes.result.items ≡ text_of (Iri whole) = ap (λ (v : Vec ℕ Global). v.items) c.into_bytes.ensures.value ∙ c.in_ok-push_str.ensures.bytes ∙ ap (λ (x : List ℕ). x ++ 62 ∷ []) is in
    short_enough (Iri whole) c.from_canonical.result c.into_bytes.result.items _ (resolved_absolute c.args.base.now c.args.reference.now c.requires.absolute c.requires.characters) (iri_length whole)
    (omega (arith, ap length is, c.in-Some.text.bytes.ok.0)) bytes c.from_canonical.ensures

pub returns-clause-kind : goal.returns-clause-kind
returns-clause-kind c =
    let whole = resolved c.args.base.now c.args.reference.now in
    let known : Some (string_bytes c.in-Some.text) ≡ Some (60 ∷ whole) = ap (option_map string_bytes) (sym c.in-Some.is) ∙ c.in_ok-text.ensures in
    let is : string_bytes c.in-Some.text ≡ 60 ∷ whole = cc in
    let bytes : c.into_bytes.result.items ≡ text_of (Iri whole) = ap (λ (v : Vec ℕ Global). v.items) c.into_bytes.ensures.value ∙ c.in_ok-push_str.ensures.bytes ∙ ap (λ (x : List ℕ). x ++ 62 ∷ []) is in
    ap is_iri (c.from_canonical.ensures ∙ term_of-bytes (Iri whole) c.into_bytes.result.items bytes)
