use Rattle.std.proofs.Common.{◌≡◌, ◌-◌, ◌∙◌, ap, arith, length, take, drop, take_all, length-drop}
use Rattle.std.specs.List.{list_all}
use Rattle.gs_model.specs.Characters.{is_iri_char}
use Rattle.gs_token_terms.proofs.PlainLemmas.{iri_rest}
use Rattle.gs_token_terms.proofs.plain.are_iri_bytes.Goals as goal

pub returns : goal.returns
returns c =
    let x = c.args.bytes.now in
    let n = c.plain_front-front.result in
    let size = length-drop n x in
    let whole : take (length x - n) (drop n x) ≡ drop n x = take_all (length x - n) (drop n x) (omega (arith, size)) in
    c.are_iri_bytes.ensures ∙ ap (list_all is_iri_char) whole ∙ iri_rest x n c.plain_front-front.ensures.within c.plain_front-front.ensures.plain
