use Rattle.std.proofs.Common.{rules}
use Rattle.gs_feeding.proofs.openings.Opening.base.Goals as goal

pub returns-in-Ok-clause-value : goal.returns-in-Ok-clause-value
returns-in-Ok-clause-value c = search rules
