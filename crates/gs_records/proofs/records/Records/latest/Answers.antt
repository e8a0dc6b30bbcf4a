use Rattle.gs_records.proofs.Shown.{listed_stored}
use Rattle.gs_records.proofs.records.Records.latest.Goals as goal

pub returns-clause-single : goal.returns-clause-single
returns-clause-single c = rw (← c.self.view_is) c.self.invariant.stored.single

pub returns-clause-dated : goal.returns-clause-dated
returns-clause-dated c = rw (← c.self.view_is) c.self.invariant.stored.dated

pub returns-clause-versions : goal.returns-clause-versions
returns-clause-versions c = rw (← c.self.view_is) c.self.invariant.versions

pub returns-clause-listed : goal.returns-clause-listed
returns-clause-listed c =
    let s = c.self.inside in
    rw (← c.self.view_is) (listed_stored s.index s.pool s.opened s.latest c.self.invariant.stored c.len-all.ensures.indexed)
