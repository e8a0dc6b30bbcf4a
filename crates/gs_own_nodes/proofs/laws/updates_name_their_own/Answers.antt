use Rattle.gs_own_nodes.proofs.UpdateLemmas.{update_own}
use Rattle.gs_own_nodes.proofs.laws.updates_name_their_own.Goals as goal

pub returns : goal.returns
returns c = update_own
