use Rattle.std.proofs.Common.{◌-◌, length}
use Rattle.gs_keys.proofs.MarkingLemmas.{Marking}
use Rattle.gs_keys.proofs.marks.mark_nodes.Given as goal

abbrev pub invariant-loop-left : goal.invariant-loop-left
invariant-loop-left l = Marking l.pool l.fn.marks l.marks l.id l.left

abbrev pub decreases-loop-left : goal.decreases-loop-left
decreases-loop-left l = length l.pool.nodes - l.id
