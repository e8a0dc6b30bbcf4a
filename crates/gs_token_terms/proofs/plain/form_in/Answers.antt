use Rattle.std.proofs.Common.{sym, ◌∙◌, ap, subst}
use Rattle.std.specs.List.{list_all}
use Rattle.std.specs.Str.{IsUtf8}
use Rattle.gs_token_terms.specs.Plain.{is_plain_in}
use Rattle.gs_token_terms.proofs.PlainLemmas.{short_string}
use Rattle.gs_token_terms.proofs.plain.form_in.Goals as goal

pub returns-then-are_plain : goal.returns-then-are_plain
returns-then-are_plain c =
    let same = c.as_bytes.ensures.value in
    let plain = ap (list_all (is_plain_in c.args.quote)) (sym same) ∙ sym c.are_plain.ensures ∙ c.if-are_plain.true in
    short_string c.args.quote c.requires.quote c.args.text.now c.in-Some.form.now c.in-Some.ensures plain (subst IsUtf8 same c.as_bytes.ensures.utf8)
