use Rattle.std.proofs.Common.{◌≡◌, ℕ, List, ◌∙◌, ap, sym, subst, map, take, drop, IfOk}
use Rattle.std.specs.List.{concat}
use Rattle.gs_term.specs.Names.{quad_line_of}
use Rattle.gs_model.proofs.GraphLemmas.{triples_of-graph_of}
use Rattle.gs_event.specs.Datasets.{named_lines}
use Rattle.gs_graphs.proofs.LineRuns.{lines_part}
use Rattle.gs_graphs.proofs.graphs.SortedGraph.quads_from.Goals as goal

pub returns : goal.returns
returns c =
    let name = c.args.name.now in
    let all : map (quad_line_of name) c.as_slice.result.now ≡ named_lines (name, c.args.self.now) =
    ap (map (quad_line_of name)) (c.as_slice.ensures.value ∙ sym (triples_of-graph_of c.self.inside.triples.items c.self.invariant)) ∙ ap (λ g. named_lines (name, g)) c.self.view_is in
    let shown = lines_part (quad_line_of name) c.as_slice.result.now c.part.result.now c.args.start c.args.count c.part.ensures ∙ ap (λ (ls : List (List ℕ)). concat (take c.args.count (drop c.args.start ls))) all in
    subst (λ (bs : List ℕ). IfOk c.quads_in_order.result (λ bytes. bytes.items ≡ bs)) shown c.quads_in_order.ensures
