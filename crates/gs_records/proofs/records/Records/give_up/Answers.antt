use Rattle.std.proofs.Common.{◌≡◌, refl, ◌∙◌}
use Rattle.gs_records.specs.Records.{opened, unused, record_at}
use Rattle.gs_records.specs.Stored.{records_by}
use Rattle.gs_records.proofs.Keeping.{given_turns, given_stored, given_current, given_up}
use Rattle.gs_records.proofs.Versions.{versions_bare}
use Rattle.gs_records.proofs.Counting.{counted_same}
use Rattle.gs_records.proofs.records.Records.give_up.Goals as goal

pub invariant_of-self : goal.invariant_of-self
invariant_of-self c =
    let s = c.self.inside in
    let is : record_at (records_by s.index s.pool) c.args.number ≡ opened = rw (← c.self.view_is) at c.requires in
    let marks = c.retire_one.ensures.marks in
    let now = given_current s.index s.pool c.retire_one.new.self s.opened s.latest c.args.number c.self.invariant.stored is marks in
    record {
      stored = given_stored s.index s.pool c.retire_one.new.self s.opened s.latest c.args.number c.self.invariant.stored is marks;
      none_aside = c.retire_one.ensures.aside ∙ c.self.invariant.none_aside;
      versions = versions_bare (records_by s.index s.pool) (records_by s.index c.retire_one.new.self) c.args.number unused (given_turns s.index s.pool c.retire_one.new.self s.opened s.latest c.args.number c.self.invariant.stored is marks) refl c.self.invariant.versions;
      counted = counted_same (records_by s.index s.pool) (records_by s.index c.retire_one.new.self) s.names s.triples now c.self.invariant.counted;
    }

pub returns : goal.returns
returns c =
    let s = c.self.inside in
    let marks = c.retire_one.ensures.marks in
    let is : record_at (records_by s.index s.pool) c.args.number ≡ opened = rw (← c.self.view_is) at c.requires in
    rw (← c.self.view_is) (given_up s.index s.pool c.retire_one.new.self s.opened s.latest c.args.number c.self.invariant.stored is marks _ _ refl refl refl refl marks.limit)
