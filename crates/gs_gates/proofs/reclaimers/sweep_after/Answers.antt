use Rattle.std.proofs.Common.{suc}
use Rattle.gs_gates.proofs.reclaimers.sweep_after.Goals as goal

pub loop-preserved : goal.loop-preserved
loop-preserved g c =
    let v = c.loop.invariant in
    (suc v.0, (c.loop.door, v.1, c.sweep_and_rest.ensures))
