use Rattle.std.proofs.Common.{◌≤◌, ◌^◌, arith}
use Rattle.std.proofs.Math.Pow.{pow_mono}
use Rattle.gs_tree.proofs.room.size_bound.Goals as goal

pub returns-then-height-ge32 : goal.returns-then-height-ge32
returns-then-height-ge32 c = let high : 2 ^ 32 ≤ 2 ^ c.args.height = pow_mono {i = 32} {j = c.args.height} (omega (arith, c.if-height-ge32.true)) in omega (arith, c.requires)
