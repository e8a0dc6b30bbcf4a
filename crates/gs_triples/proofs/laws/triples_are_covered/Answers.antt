use Rattle.gs_triples.proofs.TriplesLemmas.{triples_covered}
use Rattle.gs_triples.proofs.laws.triples_are_covered.Goals as goal

pub returns : goal.returns
returns g c = triples_covered
