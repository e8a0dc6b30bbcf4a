use Rattle.std.proofs.Common.{◌≤◌, ◌+◌, refl, sym, ap, subst, count_by, ◌∙◌, arith}
use Rattle.gs_records.proofs.Keeping.{open_few}
use Rattle.gs_records.proofs.Opening.{alike_grown, grown_many, grown_few, opened_turns, opened_stored, opened_current, opened_now}
use Rattle.gs_pool.specs.Pool.{is_aside}
use Rattle.gs_records.specs.Records.{opened}
use Rattle.gs_records.specs.Stored.{records_by}
use Rattle.gs_records.specs.Counts.{IsKept}
use Rattle.gs_records.proofs.Versions.{versions_bare}
use Rattle.gs_records.proofs.Counting.{counted_same, roomier_kept}
use Rattle.gs_records.proofs.records.Records.open.Goals as goal

pub overflow_add-self-inside : goal.overflow_add-self-inside
overflow_add-self-inside c = omega (arith, open_few c.self.inside.index c.self.inside.pool c.self.inside.opened c.self.inside.latest c.self.invariant.stored)

pub overflow_add-self : goal.overflow_add-self
overflow_add-self c = omega (arith, open_few c.self.inside.index c.self.inside.pool c.self.inside.opened c.self.inside.latest c.self.invariant.stored)

pub invariant_of-self-in_err-reserve-2 : goal.invariant_of-self-in_err-reserve-2
invariant_of-self-in_err-reserve-2 c =
    let s = c.self.inside in
    let w = c.reserve.ensures in
    roomier_kept s.index c.reserve.new.self s.pool c.reserve-2.new.self s.opened s.latest s.names s.triples w.entries w.listed w.spare c.reserve-2.ensures.nodes c.reserve-2.ensures.marks c.self.invariant

pub invariant_of-self-in_err-grow : goal.invariant_of-self-in_err-grow
invariant_of-self-in_err-grow c =
    let s = c.self.inside in
    let w = c.reserve.ensures in
    let roomier = roomier_kept s.index c.reserve.new.self s.pool c.reserve-2.new.self s.opened s.latest s.names s.triples w.entries w.listed w.spare c.reserve-2.ensures.nodes c.reserve-2.ensures.marks c.self.invariant in
    subst (λ x. IsKept x c.reserve-2.new.self s.opened s.latest s.names s.triples) (sym c.in_err-grow.ensures.kept) roomier

pub invariant_of-self-2 : goal.invariant_of-self-2
invariant_of-self-2 c =
    let s = c.self.inside in
    let w = c.reserve.new.self in
    let y = c.grow.new.index in
    let q = c.reserve-2.new.self in
    let r = c.alloc_reserved-number.new.self in
    let n = c.alloc_reserved-number.result in
    let room = c.in_ok-reserve-2.ensures in
    let grows = c.in_ok-grow.ensures.ok in
    let fills = c.alloc_reserved-number.ensures.fills in
    let alike = alike_grown s.index w y s.pool q c.in_ok-reserve.ensures.entries c.in_ok-reserve.ensures.listed grows room.nodes room.marks in
    let many = grown_many w y q r n c.node_of.result grows fills in
    let spare : s.opened + 1 ≤ y.spare = omega (arith, grows.spare, c.in_ok-reserve.ensures.ok) in
    let few = grown_few w y q grows room.ok room.fits room.small in
    record {
      stored = opened_stored s.index y s.pool q r s.opened s.latest n c.node_of.result c.self.invariant.stored alike fills c.node_of.ensures many spare few;
      none_aside = fills.aside ∙ ap (count_by is_aside) room.marks ∙ c.self.invariant.none_aside;
      versions = versions_bare (records_by s.index s.pool) (records_by y r) n opened (opened_turns s.index y s.pool q r s.opened s.latest n c.node_of.result c.self.invariant.stored alike fills c.node_of.ensures many spare few) refl c.self.invariant.versions;
      counted = counted_same (records_by s.index s.pool) (records_by y r) s.names s.triples (opened_current s.index y s.pool q r s.opened s.latest n c.node_of.result c.self.invariant.stored alike fills c.node_of.ensures many spare few) c.self.invariant.counted;
    }

pub returns-clause-ok : goal.returns-clause-ok
returns-clause-ok c =
    let s = c.self.inside in
    let w = c.reserve.new.self in
    let y = c.grow.new.index in
    let q = c.reserve-2.new.self in
    let r = c.alloc_reserved-number.new.self in
    let n = c.alloc_reserved-number.result in
    let room = c.in_ok-reserve-2.ensures in
    let grows = c.in_ok-grow.ensures.ok in
    let fills = c.alloc_reserved-number.ensures.fills in
    rw (← c.self.view_is) (
    opened_now s.index y s.pool q r s.opened s.latest n c.node_of.result c.self.invariant.stored
    (alike_grown s.index w y s.pool q c.in_ok-reserve.ensures.entries c.in_ok-reserve.ensures.listed grows room.nodes room.marks)
    fills c.node_of.ensures (grown_many w y q r n c.node_of.result grows fills)
    (omega (arith, grows.spare, c.in_ok-reserve.ensures.ok))
    (grown_few w y q grows room.ok room.fits room.small)
    _ _ refl refl (grows.listed ∙ c.in_ok-reserve.ensures.listed) refl (c.alloc_reserved-number.ensures.limit ∙ room.limit) fills.below
    )
