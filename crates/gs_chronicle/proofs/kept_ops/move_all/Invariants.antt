use Rattle.std.proofs.Common.{◌≡◌, map}
use Rattle.gs_chronicle.specs.KeptOps.{kept_op}
use Rattle.gs_chronicle.proofs.kept_ops.move_all.Given as goal

abbrev pub invariant-loop-op : goal.invariant-loop-op
invariant-loop-op l = map kept_op l.ops ≡ map kept_op l.fn.ops
