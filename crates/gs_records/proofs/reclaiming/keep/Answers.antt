use Rattle.std.proofs.Common.{refl}
use Rattle.gs_pool.specs.Pool.{aside, retired}
use Rattle.gs_records.proofs.Sweeping.{stays}
use Rattle.gs_records.proofs.reclaiming.keep.Goals as goal

pub returns-then-seat-lists-clause-stays : goal.returns-then-seat-lists-clause-stays
returns-then-seat-lists-clause-stays c = stays c.args.versions.now c.args.pool.now c.hold.new.self c.args.seat c.args.entry (retired c.args.entry.death c.args.entry.whole) c.requires.needed c.hold.ensures.marks refl

pub returns-else-seat-lists-clause-stays : goal.returns-else-seat-lists-clause-stays
returns-else-seat-lists-clause-stays c = stays c.args.versions.now c.args.pool.now c.set_aside.new.self c.args.seat c.args.entry (aside c.args.entry.death c.args.entry.whole) c.requires.needed c.set_aside.ensures.marks refl
