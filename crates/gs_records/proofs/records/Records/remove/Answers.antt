use Rattle.std.proofs.Common.{◌≡◌, ◌<◌, refl, ap, subst, ◌∙◌, arith, Some}
use Rattle.gs_records.specs.Kept.{HasNoCurrent}
use Rattle.gs_records.specs.Calls.{FindsCurrent}
use Rattle.gs_records.specs.Stored.{records_by}
use Rattle.gs_records.proofs.Removing.{ends_none, removed, end_ends, end_current, end_stored}
use Rattle.gs_index.specs.declared.entries.Entry.{Entry}
use Rattle.gs_index.specs.Indexes.{entry_at}
use Rattle.gs_records.proofs.Seeking.{version_current}
use Rattle.gs_records.proofs.Lasting.{ends_current}
use Rattle.gs_records.proofs.Versions.{versions_ended}
use Rattle.gs_records.proofs.Counting.{counted_fewer, names_enough, triples_enough}
use Rattle.gs_records.proofs.records.Records.remove.Goals as goal

pub returns-in_default : goal.returns-in_default
returns-in_default c =
    let s = c.self.inside in
    let t = c.args.target.now in
    let finds : HasNoCurrent c.args.self.now.records t = subst (FindsCurrent c.args.self.now.records t) c.in_default.is c.current.ensures in
    let none : HasNoCurrent (records_by s.index s.pool) t = rw (← c.self.view_is) at finds in
    let later : s.latest < c.args.commit = rw (← c.self.view_is) at c.requires in
    let last = ends_current s.latest c.args.commit t (records_by s.index s.pool) c.self.invariant.stored.single c.self.invariant.stored.dated c.self.invariant.versions later in
    rw (← c.self.view_is) (removed _ _ t c.args.commit c.self.invariant.stored.single last (ends_none (records_by s.index s.pool) t c.args.commit none) refl refl refl)

pub invariant_of-self-2 : goal.invariant_of-self-2
invariant_of-self-2 c =
    let s = c.self.inside in
    let n = c.in-Some.number in
    let finds : FindsCurrent (records_by s.index s.pool) c.args.target.now (Some n) = rw (← c.self.view_is) at c.in-Some.ensures in
    let later : s.latest < c.args.commit = rw (← c.self.view_is) at c.requires in
    let old = records_by s.index s.pool in
    let new = records_by c.end.new.self c.retire_one.new.self in
    let t = c.args.target.now in
    let v = (entry_at s.index.entries n).version in
    let found = version_current s.index s.pool s.opened s.latest c.self.invariant.stored t n finds in
    let gone : c.from.result ≡ v.triples = c.from.ensures ∙ ap (λ (e : Entry). e.version.triples) c.entry.ensures in
    let ends = end_ends s.index c.end.new.self s.pool c.retire_one.new.self s.opened s.latest c.args.commit n t finds.entry c.self.invariant.stored finds.at finds.same finds.lives c.end.ensures.entries c.end.ensures.listed c.end.ensures.spare c.retire_one.ensures.marks in
    let now = end_current s.index c.end.new.self s.pool c.retire_one.new.self s.opened s.latest c.args.commit n c.args.target.now finds.entry c.self.invariant.stored finds.at finds.same finds.lives c.end.ensures.entries c.end.ensures.listed c.end.ensures.spare c.retire_one.ensures.marks in
    record {
      stored = end_stored s.index c.end.new.self s.pool c.retire_one.new.self s.opened s.latest c.args.commit n c.args.target.now finds.entry c.self.invariant.stored finds.at finds.same finds.lives c.end.ensures.entries c.end.ensures.listed c.end.ensures.spare c.retire_one.ensures.marks later;
      none_aside = c.retire_one.ensures.aside ∙ c.self.invariant.none_aside;
      versions = versions_ended old new t c.args.commit ends c.self.invariant.versions;
      counted = counted_fewer old new t v s.names s.triples c.name_of.result c.from.result found now c.self.invariant.counted c.name_of.ensures gone;
    }

pub overflow_sub-self : goal.overflow_sub-self
overflow_sub-self c =
    let s = c.self.inside in
    let n = c.in-Some.number in
    let t = c.args.target.now in
    let finds : FindsCurrent (records_by s.index s.pool) t (Some n) = rw (← c.self.view_is) at c.in-Some.ensures in
    let v = (entry_at s.index.entries n).version in
    omega (arith, c.name_of.ensures, names_enough (records_by s.index s.pool) t v s.names s.triples (version_current s.index s.pool s.opened s.latest c.self.invariant.stored t n finds) c.self.invariant.counted)

pub overflow_sub-self-2 : goal.overflow_sub-self-2
overflow_sub-self-2 c =
    let s = c.self.inside in
    let n = c.in-Some.number in
    let t = c.args.target.now in
    let finds : FindsCurrent (records_by s.index s.pool) t (Some n) = rw (← c.self.view_is) at c.in-Some.ensures in
    let v = (entry_at s.index.entries n).version in
    let gone : c.from.result ≡ v.triples = c.from.ensures ∙ ap (λ (e : Entry). e.version.triples) c.entry.ensures in
    omega (arith, gone, triples_enough (records_by s.index s.pool) t v s.names s.triples (version_current s.index s.pool s.opened s.latest c.self.invariant.stored t n finds) c.self.invariant.counted)

pub returns : goal.returns
returns c =
    let s = c.self.inside in
    let n = c.in-Some.number in
    let marks = c.retire_one.ensures.marks in
    let finds : FindsCurrent (records_by s.index s.pool) c.args.target.now (Some n) = rw (← c.self.view_is) at c.in-Some.ensures in
    let later : s.latest < c.args.commit = rw (← c.self.view_is) at c.requires in
    rw (← c.self.view_is) (
    removed _ _ c.args.target.now c.args.commit c.self.invariant.stored.single
    (ends_current s.latest c.args.commit c.args.target.now (records_by s.index s.pool) c.self.invariant.stored.single c.self.invariant.stored.dated c.self.invariant.versions later)
    (end_ends s.index c.end.new.self s.pool c.retire_one.new.self s.opened s.latest c.args.commit n c.args.target.now finds.entry c.self.invariant.stored finds.at finds.same finds.lives c.end.ensures.entries c.end.ensures.listed c.end.ensures.spare marks)
    c.end.ensures.listed refl marks.limit
    )
