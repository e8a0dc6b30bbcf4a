use Rattle.gs_ledger.proofs.Staying.{may_go}
use Rattle.gs_ledger.proofs.laws.what_no_version_needs_may_go.Goals as goal

pub returns : goal.returns
returns c = may_go
