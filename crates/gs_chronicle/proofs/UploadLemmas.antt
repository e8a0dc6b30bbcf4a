-- The graph of a list with more triples.
use Rattle.std.proofs.Common.{◌≡◌, List, [], ◌∷◌, ◌++◌, sym, ap, ◌∙◌}
use Rattle.std.specs.FinMap as fin
use Rattle.gs_model.specs.Triples.{RdfTriple}
use Rattle.gs_model.specs.Graphs.{Graph, graph_of, triples_of, with_triples}
use Rattle.gs_model.proofs.GraphLemmas.{graph_of-triples_of}
use Rattle.gs_event.proofs.SizeLemmas.{turned}

-- triples that go before others make a graph of their graph
graph_of-before : (xs ys zs : List RdfTriple) → graph_of ys ≡ graph_of zs → graph_of (xs ++ ys) ≡ graph_of (xs ++ zs)
graph_of-before [] ys zs e = e
graph_of-before (x ∷ xs) ys zs e = ap (λ (g : Graph). fin.insert g x tt) (graph_of-before xs ys zs e)

-- the graph of all is the graph of what was there, with the triples that came too
pub more_staged : (old ts new : List RdfTriple) → new ≡ old ++ ts → graph_of new ≡ with_triples (graph_of old) ts
more_staged old ts new e =
    ap graph_of e
    ∙ turned old ts
    ∙ graph_of-before ts old (triples_of (graph_of old)) (sym (graph_of-triples_of (graph_of old)))
    ∙ turned ts (triples_of (graph_of old))
