use Rattle.std.proofs.Common.{◌≡◌, not, sym, ap, ◌∙◌}
use Rattle.std.specs.List.{filter}
use Rattle.std.specs.Ordering.{eq_by_cmp}
use Rattle.std.proofs.lemmas.List.Kept.{IsStrictlySortedBy-filter}
use Rattle.std.proofs.lemmas.List.Sorted.{list_any-IsPermutation}
use Rattle.gs_model.specs.Triples.{RdfTriple, triple_cmp}
use Rattle.gs_model.specs.Graphs.{graph_of, triples_of}
use Rattle.gs_model.proofs.GraphLemmas.{triples_of-graph_of}
use Rattle.gs_event.specs.Solutions.{is_among}
use Rattle.gs_graphs.proofs.graphs.SortedGraph.remove_all.Goals as goal

pub invariant_of-self : goal.invariant_of-self
invariant_of-self c = rw c.remove_sorted.ensures (IsStrictlySortedBy-filter triple_cmp _ c.self.inside.triples.items c.self.invariant)

pub returns-clause-ok : goal.returns-clause-ok
returns-clause-ok c =
    let same : (t : RdfTriple) → is_among c.as_slice.result.now t ≡ is_among c.args.triples.now t = λ t.
    ap (λ ts. is_among ts t) c.as_slice.ensures.value
    ∙ sym (list_any-IsPermutation (eq_by_cmp triple_cmp t) c.in_ok-gone.gone.items c.sort_unstable.new.self.items c.sort_unstable.ensures.permutation)
    ∙ ap (λ ts. is_among ts t) c.in_ok-gone.ensures in
    let own : c.self.inside.triples.items ≡ triples_of c.args.self.now = sym (triples_of-graph_of c.self.inside.triples.items c.self.invariant) ∙ ap triples_of c.self.view_is in
    ap graph_of c.remove_sorted.ensures ∙ (λ i. graph_of (filter (λ t. not (same t i)) (own i)))
