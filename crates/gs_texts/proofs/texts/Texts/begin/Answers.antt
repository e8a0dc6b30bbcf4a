use Rattle.std.proofs.Common.{◌∙◌, ap, arith, length}
use Rattle.std.proofs.lemmas.List.{length_push}
use Rattle.gs_texts.proofs.PlaceLemmas.{ends_block}
use Rattle.gs_texts.proofs.texts.Texts.begin.Goals as goal

pub returns-clause-ok : goal.returns-clause-ok
returns-clause-ok c =
    let number = ap length c.in_ok-seal.ensures.sealed ∙ length_push c.self.inside.sealed c.self.inside.last in
    ends_block _ _ _ _ _ _ (c.in_ok-seal.ensures.next ∙ c.in_ok-place.ensures.bytes) (omega (arith, c.len-number.ensures, number)) c.in_ok-place.ensures.place
