use Rattle.gs_commit.proofs.LawLemmas.{empty_ledger, empty_dead}
use Rattle.gs_commit.proofs.laws.an_empty_pool_has_an_empty_ledger.Goals as goal

pub returns-clause-ledger : goal.returns-clause-ledger
returns-clause-ledger c = empty_ledger

pub returns-clause-dead : goal.returns-clause-dead
returns-clause-dead c = empty_dead
