use Rattle.gs_iri.proofs.PartsLemmas.{rejoin}
use Rattle.gs_iri.proofs.laws.parts_rejoin.Goals as goal

pub returns : goal.returns
returns c = λ text. rejoin text
