use Rattle.std.proofs.Common.{◌∙◌}
use Rattle.gs_triple_values.proofs.PatternLemmas.{named, unnamed}
use Rattle.gs_triple_values.proofs.patterns.variable.Goals as goal

pub returns-in_ok-new-in-Ok : goal.returns-in_ok-new-in-Ok
returns-in_ok-new-in-Ok c = named c.args.name.now c.in_ok-new-in-Ok.field-0 (c.in_ok-new-in-Ok.ensures ∙ c.in-Ok.ensures.cases.0) c.in-Ok.ensures.cases.1

pub returns-in-Err : goal.returns-in-Err
returns-in-Err c = unnamed c.args.name.now c.in-Err.ensures.cases.0
