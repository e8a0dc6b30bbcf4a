-- the solutions are as they were
use Rattle.gs_joins.specs.Reductions.{Reduces}
use Rattle.gs_joins.proofs.reduction.reduce_once.Given as goal

abbrev pub invariant-loop-i : goal.invariant-loop-i
invariant-loop-i l = Reduces l.fn.lots.items l.lots.items
