use Rattle.std.proofs.Common.{sym, ap, ◌∙◌, Some}
use Rattle.gs_index.specs.declared.entries.Entry.{Entry}
use Rattle.gs_records.specs.Kept.{HasNoCurrent}
use Rattle.gs_records.specs.Calls.{FindsCurrent}
use Rattle.gs_records.specs.Stored.{records_by}
use Rattle.gs_records.proofs.Births.{birth_lacking}
use Rattle.gs_records.proofs.Seeking.{birth_current}
use Rattle.gs_records.proofs.records.Records.birth.Goals as goal

pub returns-in_err-number : goal.returns-in_err-number
returns-in_err-number c =
    let none : HasNoCurrent c.args.self.now.records c.args.target.now = c.in_err-number.ensures in
    c.from_residual.ensures ∙ sym (birth_lacking c.args.self.now.records c.args.target.now (λ f. none f.number f.entry f.at f.same f.passes))

pub returns : goal.returns
returns c =
    let s = c.self.inside in
    let n = c.in_ok-number.number in
    let finds : FindsCurrent (records_by s.index s.pool) c.args.target.now (Some n) = rw (← c.self.view_is) at c.in_ok-number.ensures in
    rw (← c.self.view_is) (ap (λ (e : Entry). Some e.birth) c.entry.ensures ∙ sym (birth_current s.index s.pool s.opened s.latest c.self.invariant.stored c.args.target.now n finds))
