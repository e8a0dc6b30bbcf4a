use Rattle.gs_keys.proofs.RootLemmas.{graph_kept}
use Rattle.gs_keys.proofs.laws.graph_outlasts_new_terms.Goals as goal

pub returns : goal.returns
returns c = graph_kept
