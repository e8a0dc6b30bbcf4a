use Rattle.gs_staging.proofs.StageLemmas.{staged_graph, staged_size}
use Rattle.gs_staging.proofs.laws.staged_has_a_key_for_each_triple.Goals as goal

pub returns-clause-graph : goal.returns-clause-graph
returns-clause-graph c = staged_graph

pub returns-clause-size : goal.returns-clause-size
returns-clause-size c = staged_size
