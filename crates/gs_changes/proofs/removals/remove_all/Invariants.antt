use Rattle.gs_changes.proofs.PruneLemmas.{Pruning}
use Rattle.gs_changes.proofs.removals.remove_all.Given as goal

abbrev pub invariant-loop-key : goal.invariant-loop-key
invariant-loop-key g l = Pruning (g.O.KeyOrder.compare l.order) l.birth l.fn.pool l.pool l.fn.root l.pruned l.keys l.key-index
