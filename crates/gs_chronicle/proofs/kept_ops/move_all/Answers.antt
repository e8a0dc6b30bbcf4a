use Rattle.std.proofs.Common.{◌∙◌, arith}
use Rattle.gs_chronicle.proofs.KeptOpLemmas.{same_ops}
use Rattle.gs_chronicle.proofs.kept_ops.move_all.Goals as goal

pub loop-op-preserved : goal.loop-op-preserved
loop-op-preserved c =
    same_ops c.loop-op.ops c.loop-op.op-index c.op-item.result c.move_into.new.self (omega arith) c.move_into.ensures ∙ c.loop-op.invariant
