use Rattle.gs_chronicle.proofs.KeptOpLemmas.{Taken}
use Rattle.gs_chronicle.proofs.kept_ops.take_all.Given as goal

abbrev pub invariant-loop-place : goal.invariant-loop-place
invariant-loop-place l = Taken l.place l.forms l.ops l.fn.ops
