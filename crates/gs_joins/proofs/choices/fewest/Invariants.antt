use Rattle.std.proofs.Common.{◌<◌, length}
use Rattle.gs_joins.proofs.choices.fewest.Given as goal

abbrev pub invariant-loop-i : goal.invariant-loop-i
invariant-loop-i l = l.best < length l.order
