use Rattle.gs_commit.proofs.RootLemmas.{ledger_retirable}
use Rattle.gs_commit.proofs.laws.roots_of_ledgers_can_be_retired.Goals as goal

pub returns : goal.returns
returns c = ledger_retirable
