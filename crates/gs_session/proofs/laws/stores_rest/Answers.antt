use Rattle.gs_session.proofs.StoreLemmas.{stores_rest}
use Rattle.gs_session.proofs.laws.stores_rest.Goals as goal

pub returns : goal.returns
returns c = stores_rest
