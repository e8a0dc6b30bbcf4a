use Rattle.std.proofs.Common.{sym, ap, ◌∙◌}
use Rattle.gs_model.specs.Texts.{front}
use Rattle.gs_model.proofs.TextLemmas.{front-snoc}
use Rattle.gs_commands.proofs.lines.front.Goals as goal

pub returns-in-Some : goal.returns-in-Some
returns-in-Some c = sym (ap front c.in-Some.ensures.cases.0 ∙ front-snoc _ _)
