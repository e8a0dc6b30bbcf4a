use Rattle.gs_session.proofs.StoreLemmas.{stores_fit}
use Rattle.gs_session.proofs.laws.stores_fit.Goals as goal

pub returns : goal.returns
returns c = stores_fit
