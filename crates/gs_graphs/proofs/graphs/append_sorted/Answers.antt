use Rattle.std.proofs.Common.{sym, ap, ◌∙◌}
use Rattle.std.specs.List.{list_any}
use Rattle.std.specs.Ordering.{eq_by_cmp, is_eq}
use Rattle.std.specs.Cmp.{Equal-is, alike_right}
use Rattle.std.proofs.lemmas.List.Filters.{dedup_is}
use Rattle.std.proofs.lemmas.List.Kept.{IsStrictlySortedBy-dedup}
use Rattle.std.proofs.lemmas.List.Sorted.{list_any-IsPermutation}
use Rattle.gs_model.specs.Triples.{triple_cmp}
use Rattle.gs_term.specs.contracts.triples.TripleOrd.TheImpl.Laws.{matches_eq-law}
use Rattle.gs_model.proofs.GraphLemmas.{triple_total, any_dedup, same_graph}
use Rattle.gs_graphs.proofs.graphs.append_sorted.Goals as goal

pub returns-clause-sorted : goal.returns-clause-sorted
returns-clause-sorted c = rw (dedup_is _ _ _ c.dedup.ensures.filtered) (IsStrictlySortedBy-dedup triple_total matches_eq-law c.sort_unstable.new.self.items c.sort_unstable.ensures.sorted)

pub returns-clause-graph : goal.returns-clause-graph
returns-clause-graph c =
    rw (dedup_is _ _ _ c.dedup.ensures.filtered) (same_graph _ _ (λ q.
    any_dedup _ (eq_by_cmp triple_cmp q) (λ x k e. ap is_eq (alike_right triple_total x k q ((Equal-is _).0 (sym (matches_eq-law x k) ∙ e)))) c.sort_unstable.new.self.items
    ∙ sym (list_any-IsPermutation (eq_by_cmp triple_cmp q) _ _ c.sort_unstable.ensures.permutation)
    ∙ ap (list_any (eq_by_cmp triple_cmp q)) c.in_ok-append.ensures.items))
