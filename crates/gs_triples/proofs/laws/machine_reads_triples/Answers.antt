use Rattle.gs_triples.proofs.MachineLemmas.{opening_run}
use Rattle.gs_triples.proofs.laws.machine_reads_triples.Goals as goal

pub returns : goal.returns
returns g c = opening_run
