use Rattle.gs_model.proofs.GraphLemmas.{triples_of-graph_of}
use Rattle.gs_model.proofs.laws.graph_has_one_list.Goals as goal

pub returns : goal.returns
returns c = triples_of-graph_of
