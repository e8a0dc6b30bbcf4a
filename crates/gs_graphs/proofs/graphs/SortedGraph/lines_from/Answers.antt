use Rattle.std.proofs.Common.{◌≡◌, ℕ, List, ◌∙◌, ap, sym, subst, map, take, drop, IfOk}
use Rattle.std.specs.List.{concat}
use Rattle.gs_model.specs.Triples.{line_of}
use Rattle.gs_model.specs.Graphs.{lines_of}
use Rattle.gs_model.proofs.GraphLemmas.{triples_of-graph_of}
use Rattle.gs_graphs.proofs.LineRuns.{lines_part}
use Rattle.gs_graphs.proofs.graphs.SortedGraph.lines_from.Goals as goal

pub returns : goal.returns
returns c =
    let all : map line_of c.as_slice.result.now ≡ lines_of c.args.self.now =
    ap (map line_of) (c.as_slice.ensures.value ∙ sym (triples_of-graph_of c.self.inside.triples.items c.self.invariant)) ∙ ap lines_of c.self.view_is in
    let shown = lines_part line_of c.as_slice.result.now c.part.result.now c.args.start c.args.count c.part.ensures ∙ ap (λ (ls : List (List ℕ)). concat (take c.args.count (drop c.args.start ls))) all in
    subst (λ (bs : List ℕ). IfOk c.lines_in_order.result (λ bytes. bytes.items ≡ bs)) shown c.lines_in_order.ensures
