use Rattle.gs_iri.proofs.AbsoluteLemmas.{absolute_forth, absolute_back}
use Rattle.gs_iri.proofs.laws.absolute_is.Goals as goal

pub returns : goal.returns
returns c = λ text. (absolute_forth text, absolute_back text)
