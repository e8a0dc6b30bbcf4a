use Rattle.gs_triples.proofs.TriplesLemmas.{triples_read}
use Rattle.gs_triples.proofs.laws.triples_are_read.Goals as goal

pub returns : goal.returns
returns g c = λ env n k xs rest T s h. triples_read s rest h
