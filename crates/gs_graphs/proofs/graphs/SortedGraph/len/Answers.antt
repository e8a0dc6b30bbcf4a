use Rattle.std.proofs.Common.{◌∙◌, sym, ap, length}
use Rattle.gs_model.specs.Graphs.{triples_of}
use Rattle.gs_model.proofs.GraphLemmas.{triples_of-graph_of}
use Rattle.gs_graphs.proofs.graphs.SortedGraph.len.Goals as goal

pub returns : goal.returns
returns c = c.len.ensures ∙ c.self.inside.triples.ok.0 ∙ ap length (sym (triples_of-graph_of c.self.inside.triples.items c.self.invariant)) ∙ ap (λ g. length (triples_of g)) c.self.view_is
