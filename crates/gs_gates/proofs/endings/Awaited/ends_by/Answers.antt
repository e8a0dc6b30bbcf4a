use Rattle.std.proofs.Common.{ap, ◌∙◌}
use Rattle.gs_gates.specs.Endings.{comes_with}
use Rattle.gs_gates.proofs.EndLemmas.{comes_with_awaited}
use Rattle.gs_gates.proofs.endings.Awaited.ends_by.Goals as goal

pub returns : goal.returns
returns c = λ e awaited.
    c.comes_with.ensures.value ∙ (ap (λ w. comes_with w c.args.answer.now) awaited ∙ comes_with_awaited e c.args.answer.now)
