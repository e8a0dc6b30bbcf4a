use Rattle.gs_commit.proofs.LawLemmas.{upload_grows}
use Rattle.gs_commit.proofs.laws.staging_keeps_ledgers.Goals as goal

pub returns : goal.returns
returns c = upload_grows
