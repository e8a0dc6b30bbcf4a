use Rattle.gs_iri.proofs.AbsoluteLemmas.{absolute_encodes}
use Rattle.gs_iri.proofs.laws.absolute_by_characters.Goals as goal

pub returns : goal.returns
returns c = λ cs ok. absolute_encodes cs
