use Rattle.gs_iri.proofs.SchemeLemmas.{resolved_absolute}
use Rattle.gs_iri.proofs.laws.resolved_is_absolute.Goals as goal

pub returns : goal.returns
returns c = λ base reference absolute characters. resolved_absolute base reference absolute characters
