use Rattle.std.proofs.Common.{length}
use Rattle.gs_chronicle.proofs.kept_ops.KeptOps.leave_to.Given as goal

abbrev pub decreases-loop-op : goal.decreases-loop-op
decreases-loop-op l = length l.ops.items
