use Rattle.std.proofs.Common.{sym, ◌∙◌}
use Rattle.gs_blank.proofs.NumbersLemmas.{look-up}
use Rattle.gs_blank.proofs.numbering.Numbering.number.Goals as goal

pub returns : goal.returns
returns c = sym (look-up _ c.self.inside.labels _ _ c.self.view_is ∙ sym c.get.ensures.value ∙ sym c.copied.ensures)
