use Rattle.gs_ledger.proofs.Counts.{nodes_counted}
use Rattle.gs_ledger.proofs.laws.nodes_are_counted.Goals as goal

pub returns : goal.returns
returns c = nodes_counted
