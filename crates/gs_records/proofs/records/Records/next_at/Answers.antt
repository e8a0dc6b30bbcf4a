use Rattle.gs_records.proofs.Shown.{listed_stored}
use Rattle.gs_records.proofs.records.Records.next_at.Goals as goal

pub returns-in_err-numbers-clause-listed : goal.returns-in_err-numbers-clause-listed
returns-in_err-numbers-clause-listed c =
    let s = c.self.inside in
    rw (← c.self.view_is) (listed_stored s.index s.pool s.opened s.latest c.self.invariant.stored c.len-all.ensures.indexed)

pub returns-clause-listed : goal.returns-clause-listed
returns-clause-listed c =
    let s = c.self.inside in
    rw (← c.self.view_is) (listed_stored s.index s.pool s.opened s.latest c.self.invariant.stored c.len-all.ensures.indexed)

pub returns-in_err-had-clause-listed : goal.returns-in_err-had-clause-listed
returns-in_err-had-clause-listed c =
    let s = c.self.inside in
    rw (← c.self.view_is) (listed_stored s.index s.pool s.opened s.latest c.self.invariant.stored c.len-all.ensures.indexed)
