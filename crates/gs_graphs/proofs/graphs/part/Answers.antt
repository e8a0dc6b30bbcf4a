use Rattle.gs_graphs.proofs.LineRuns.{part_is}
use Rattle.gs_graphs.proofs.graphs.part.Goals as goal

pub returns : goal.returns
returns c = part_is c.args.triples.now c.args.start c.args.count c.min-from.result c.min.result c.min-from.ensures c.min.ensures
