use Rattle.std.proofs.Common.{◌∙◌}
use Rattle.gs_graphs.proofs.LookupLemmas.{looked_up}
use Rattle.gs_graphs.proofs.graphs.is_in.Goals as goal

pub returns : goal.returns
returns c = c.is_ok.ensures.value ∙ looked_up c.args.sorted.now c.args.triple.now c.binary_search.result c.requires c.binary_search.ensures.bound c.binary_search.ensures.position
