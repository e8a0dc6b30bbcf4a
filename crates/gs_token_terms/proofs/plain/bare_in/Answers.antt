use Rattle.std.proofs.Common.{false, sym, ◌∙◌, ap, subst}
use Rattle.std.specs.Str.{IsUtf8}
use Rattle.gs_token_terms.specs.Plain.{are_bare}
use Rattle.gs_token_terms.proofs.PlainLemmas.{bare_string}
use Rattle.gs_token_terms.proofs.plain.bare_in.Goals as goal

pub returns-then-are_bare : goal.returns-then-are_bare
returns-then-are_bare c =
    let same = c.as_bytes.ensures.value in
    let bare = ap (are_bare c.args.quote false) (sym same) ∙ sym c.are_bare.ensures ∙ c.if-are_bare.true in
    bare_string c.args.quote c.requires c.args.text.now c.in-Some.first.now c.in-Some-inside.second.now c.in-Some-inside-2.form.now c.in-Some.ensures c.in-Some-inside.ensures c.in-Some-inside-2.ensures bare
    (subst IsUtf8 same c.as_bytes.ensures.utf8)
