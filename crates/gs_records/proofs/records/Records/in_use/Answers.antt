use Rattle.std.proofs.Common.{◌∙◌}
use Rattle.gs_records.specs.Stored.{records_by}
use Rattle.gs_records.proofs.Using.{are_used, in_use_is}
use Rattle.gs_records.proofs.records.Records.in_use.Goals as goal

pub returns-clause-value : goal.returns-clause-value
returns-clause-value c =
    let s = c.self.inside in
    rw (← c.self.view_is) (c.nodes_in_use.ensures.value ∙ in_use_is s.index s.pool s.opened s.latest c.self.invariant.stored)

pub returns-clause-parts : goal.returns-clause-parts
returns-clause-parts c =
    let s = c.self.inside in
    rw (← c.self.view_is) (are_used (records_by s.index s.pool) c.self.invariant.stored.single c.self.invariant.versions)
