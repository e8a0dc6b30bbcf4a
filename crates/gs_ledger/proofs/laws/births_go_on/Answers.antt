use Rattle.gs_ledger.proofs.Births as law
use Rattle.gs_ledger.proofs.laws.births_go_on.Goals as goal

pub returns-clause-stage : goal.returns-clause-stage
returns-clause-stage c = law.stage_births

pub returns-clause-copy : goal.returns-clause-copy
returns-clause-copy c = law.copy_births

pub returns-clause-put : goal.returns-clause-put
returns-clause-put c = law.put_births
