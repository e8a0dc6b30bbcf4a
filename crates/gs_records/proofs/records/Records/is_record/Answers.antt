use Rattle.std.proofs.Common.{sym, ◌∙◌}
use Rattle.gs_records.proofs.Shown.{kept_made}
use Rattle.gs_records.proofs.records.Records.is_record.Goals as goal

pub returns-clause-record : goal.returns-clause-record
returns-clause-record c =
    let s = c.self.inside in
    rw (← c.self.view_is) (c.is_listed.ensures ∙ c.self.invariant.stored.lists c.args.number ∙ sym (kept_made s.index s.pool s.opened s.latest c.self.invariant.stored c.args.number))
