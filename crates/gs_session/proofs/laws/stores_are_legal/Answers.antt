use Rattle.gs_session.proofs.StoreLemmas.{stores_are_legal}
use Rattle.gs_session.proofs.laws.stores_are_legal.Goals as goal

pub returns : goal.returns
returns c = stores_are_legal
