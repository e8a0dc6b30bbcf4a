-- the solutions are as they were
use Rattle.gs_joins.specs.Reductions.{Reduces}
use Rattle.gs_joins.proofs.reduction.reduce.Given as goal

abbrev pub invariant-loop : goal.invariant-loop
invariant-loop l = Reduces l.fn.lots.items l.lots.items
