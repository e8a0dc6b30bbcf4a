use Rattle.std.proofs.Common.{refl}
use Rattle.gs_records.specs.Stored.{records_by}
use Rattle.gs_records.proofs.Versions.{versions_dropped}
use Rattle.gs_records.proofs.Counting.{counted_same}
use Rattle.gs_records.proofs.Finishing.{reclaimed}
use Rattle.gs_records.proofs.records.Records.reclaim.Goals as goal

pub invariant_of-self : goal.invariant_of-self
invariant_of-self c =
    let s = c.self.inside in
    record {
      stored = c.reclaim.ensures.swept.stored s.opened s.latest c.self.invariant.stored;
      none_aside = c.reclaim.ensures.swept.none_aside;
      versions = versions_dropped c.args.versions.now.seats (records_by s.index s.pool) (records_by c.reclaim.new.index c.reclaim.new.pool) c.reclaim.ensures.swept.drops.each c.self.invariant.versions;
      counted = counted_same (records_by s.index s.pool) (records_by c.reclaim.new.index c.reclaim.new.pool) s.names s.triples c.reclaim.ensures.swept.drops.now c.self.invariant.counted;
    }

pub returns : goal.returns
returns c =
    let s = c.self.inside in
    rw (← c.self.view_is) (reclaimed c.args.versions.now.seats c.args.n c.reclaim.result.freed c.reclaim.result.left s.index c.reclaim.new.index s.pool c.reclaim.new.pool c.reclaim.ensures.swept _ _ refl refl refl c.reclaim.ensures.limit)
