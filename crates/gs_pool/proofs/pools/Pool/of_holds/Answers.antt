use Rattle.std.proofs.Common.{ap, arith}
use Rattle.gs_pool.proofs.FollowLemmas.{none_sound, pins_empty}
use Rattle.gs_pool.proofs.pools.Pool.of_holds.Goals as goal

pub invariant_of-result : goal.invariant_of-result
invariant_of-result c = none_sound _ c.args.holds.items _ (ap (λ ps. ps.items) c.new.ensures) c.requires (omega (arith, c.min.ensures))

pub returns-clause-pins : goal.returns-clause-pins
returns-clause-pins c = pins_empty c.args.holds.items c.requires
