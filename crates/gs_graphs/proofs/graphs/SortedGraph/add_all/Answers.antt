use Rattle.std.proofs.Common.{◌≡◌, sym, ap, ◌∙◌, ◌++◌, length, arith}
use Rattle.gs_model.specs.Graphs.{graph_of, with_triples, size_of}
use Rattle.gs_model.proofs.GraphLemmas.{triples_of-graph_of}
use Rattle.gs_graphs.proofs.graphs.SortedGraph.add_all.Goals as goal

pub returns-clause-ok : goal.returns-clause-ok
returns-clause-ok c =
    let old = c.self.inside.triples.items in
    c.in_ok-append_sorted.ensures.graph
    ∙ ap (λ ts. graph_of (old ++ ts)) c.in_ok-copies.ensures
    ∙ ap (λ ts. graph_of (ts ++ c.args.triples.now)) (sym (triples_of-graph_of old c.self.invariant))
    ∙ ap (λ g. with_triples g c.args.triples.now) c.self.view_is

pub returns-clause-size : goal.returns-clause-size
returns-clause-size c =
    let old = c.self.inside.triples.items in
    let new = c.append_sorted.new.triples.items in
    let grown : size_of (graph_of new) ≡ length new = ap length (triples_of-graph_of new c.in_ok-append_sorted.ensures.sorted) in
    let before : length old ≡ size_of c.args.self.now = ap length (sym (triples_of-graph_of old c.self.invariant)) ∙ ap size_of c.self.view_is in
    let copied : length c.in_ok-copies.copies.items ≡ length c.args.triples.now = ap length c.in_ok-copies.ensures in
    omega (arith, c.in_ok-append_sorted.ensures.size)
