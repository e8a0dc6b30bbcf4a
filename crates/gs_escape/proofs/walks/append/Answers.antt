use Rattle.std.proofs.Common.{◌≡◌, ◌≤◌, ◌∙◌, ap, sym, arith, length, subst, refl}
use Rattle.std.specs.Prelude.{Err}
use Rattle.std.specs.Option.{is_some}
use Rattle.std.specs.String.{string_bytes}
use Rattle.std.proofs.lemmas.Str.{IsUtf8-string_bytes}
use Rattle.gs_iri.proofs.TextLemmas.{boundary_of_old}
use Rattle.gs_escape.specs.Meanings.{meant_after}
use Rattle.gs_escape.specs.Tokens.{ReportsMeaning}
use Rattle.gs_escape.proofs.WalkLemmas.{meaning_of_text, meaning_of_none}
use Rattle.gs_escape.proofs.walks.append.Goals as goal

pub returns-in_default-clause-refused : goal.returns-in_default-clause-refused
returns-in_default-clause-refused c = (meaning_of_none c.args.form c.args.text.now c.in_default.ensures.cases.0, refl)

pub truncate-requires : goal.truncate-requires
truncate-requires c =
    λ l.
    let start : c.len-length.result ≡ length (string_bytes c.args.out.now) = omega arith in
    let within : c.len-length.result ≤ length (string_bytes c.append_front.new.out) = omega arith in
    let place = boundary_of_old (string_bytes c.args.out.now) (string_bytes c.append_front.new.out) c.len-length.result start (IsUtf8-string_bytes c.args.out.now) (IsUtf8-string_bytes c.append_front.new.out) c.append_front.ensures.front within in
    (place.0, λ _. place.1)

pub returns-in-Ok-append_front-clause-value : goal.returns-in-Ok-append_front-clause-value
returns-in-Ok-append_front-clause-value c =
    c.in-Ok-append_front.ensures.value
    ∙ sym (ap (meant_after (string_bytes c.args.out.now)) (meaning_of_text c.args.form c.args.text.now c.in-Ok.text.now c.in-Ok.ensures.cases.0 c.in-Ok.ensures.cases.1))

pub returns-in-Ok-append_front-clause-refused : goal.returns-in-Ok-append_front-clause-refused
returns-in-Ok-append_front-clause-refused c =
    ap is_some (meaning_of_text c.args.form c.args.text.now c.in-Ok.text.now c.in-Ok.ensures.cases.0 c.in-Ok.ensures.cases.1)
    ∙ c.in-Ok-append_front.ensures.refused

pub returns-in-Err-clause-refused : goal.returns-in-Err-clause-refused
returns-in-Err-clause-refused c =
    subst (λ m. ReportsMeaning m (Err c.in-Err.refusal)) (sym (meaning_of_text c.args.form c.args.text.now c.in-Ok.text.now c.in-Ok.ensures.cases.0 c.in-Ok.ensures.cases.1)) c.in-Err.ensures.refused
