use Rattle.gs_ledger.proofs.Staying.{needed_stay}
use Rattle.gs_ledger.proofs.laws.needed_nodes_stay.Goals as goal

pub returns : goal.returns
returns c = needed_stay
