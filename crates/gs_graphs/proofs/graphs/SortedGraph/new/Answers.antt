use Rattle.std.proofs.Common.{sym, subst}
use Rattle.std.specs.List.Sorted.{IsStrictlySortedBy}
use Rattle.gs_model.specs.Triples.{triple_cmp}
use Rattle.gs_graphs.proofs.graphs.SortedGraph.new.Goals as goal

pub invariant_of-result : goal.invariant_of-result
unfolding IsStrictlySortedBy
invariant_of-result c = subst (IsStrictlySortedBy triple_cmp) (sym c.new.ensures.items) tt
