use Rattle.gs_keys.proofs.RootLemmas.{graph_same}
use Rattle.gs_keys.proofs.laws.graph_needs_only_its_terms.Goals as goal

pub returns : goal.returns
returns c = graph_same
