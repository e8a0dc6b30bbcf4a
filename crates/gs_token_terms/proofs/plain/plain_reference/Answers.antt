use Rattle.std.proofs.Common.{sym, ◌∙◌, ap, subst}
use Rattle.std.specs.List.{list_all}
use Rattle.std.specs.Str.{IsUtf8}
use Rattle.gs_model.specs.Characters.{is_iri_char}
use Rattle.gs_token_terms.proofs.PlainLemmas.{plain_reference}
use Rattle.gs_token_terms.proofs.plain.plain_reference.Goals as goal

pub returns-then-are_iri_bytes : goal.returns-then-are_iri_bytes
returns-then-are_iri_bytes c =
    let same = c.as_bytes.ensures.value in
    let characters = ap (list_all is_iri_char) (sym same) ∙ sym c.are_iri_bytes.ensures ∙ c.if-are_iri_bytes.true in
    plain_reference c.args.text.now c.in-Some.iri.now c.in-Some.ensures characters (subst IsUtf8 same c.as_bytes.ensures.utf8)
