use Rattle.std.proofs.Common.{◌∙◌, sym, ap}
use Rattle.gs_model.specs.Graphs.{triples_of}
use Rattle.gs_model.proofs.GraphLemmas.{triples_of-graph_of}
use Rattle.gs_graphs.proofs.graphs.SortedGraph.as_slice.Goals as goal

pub returns-clause-value : goal.returns-clause-value
returns-clause-value c = c.as_slice.ensures.value ∙ sym (triples_of-graph_of c.self.inside.triples.items c.self.invariant) ∙ ap triples_of c.self.view_is
