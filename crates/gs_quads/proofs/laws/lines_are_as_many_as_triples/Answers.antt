use Rattle.gs_quads.proofs.Counted.{lines_counted}
use Rattle.gs_quads.proofs.laws.lines_are_as_many_as_triples.Goals as goal

pub returns : goal.returns
returns c = lines_counted
