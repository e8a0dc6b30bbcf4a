use Rattle.gs_commit.proofs.LawLemmas.{restored_same}
use Rattle.gs_commit.proofs.laws.restored_pools_keep_ledgers.Goals as goal

pub returns : goal.returns
returns c = restored_same
