use Rattle.std.proofs.Common.{sym, ap, ◌∙◌, Some}
use Rattle.gs_index.specs.declared.entries.Entry.{Entry}
use Rattle.gs_records.specs.Kept.{HasNoCurrent}
use Rattle.gs_records.specs.Calls.{FindsCurrent}
use Rattle.gs_records.specs.Stored.{records_by}
use Rattle.gs_records.proofs.Seeking.{version_current, version_none}
use Rattle.gs_records.proofs.records.Records.get.Goals as goal

pub returns-in-Some : goal.returns-in-Some
returns-in-Some c =
    let s = c.self.inside in
    let n = c.in-Some.number in
    let finds : FindsCurrent (records_by s.index s.pool) c.args.target.now (Some n) = rw (← c.self.view_is) at c.in-Some.ensures in
    rw (← c.self.view_is) (ap (λ (e : Entry). Some e.version) c.entry.ensures ∙ sym (version_current s.index s.pool s.opened s.latest c.self.invariant.stored c.args.target.now n finds))

pub returns-in-None : goal.returns-in-None
returns-in-None c =
    let s = c.self.inside in
    let none : HasNoCurrent (records_by s.index s.pool) c.args.target.now = rw (← c.self.view_is) at c.in-None.ensures in
    rw (← c.self.view_is) (c.missing_version.ensures ∙ sym (version_none s.index s.pool s.opened s.latest c.self.invariant.stored c.args.target.now none))
