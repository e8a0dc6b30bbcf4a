use Rattle.std.proofs.Common.{◌∙◌, ◌≤◌, sym, subst}
use Rattle.std.proofs.lemmas.List.Sorted.{IsPermutation-trans, length_permutation}
use Rattle.gs_staging.proofs.orders.sort_groups.Goals as goal

pub returns-then-not-settle_group-clause-permutation : goal.returns-then-not-settle_group-clause-permutation
returns-then-not-settle_group-clause-permutation c = IsPermutation-trans _ _ _ c.groups.invariant.permutation c.settle_group.ensures.permutation

pub groups-preserved : goal.groups-preserved
groups-preserved c =
    let long = length_permutation _ _ c.settle_group.ensures.permutation in
    record {
      within = subst (λ n. c.group_end-end.result ≤ n) (sym long) c.group_end-end.ensures.within;
      long = long ∙ c.groups.invariant.long;
      permutation = IsPermutation-trans _ _ _ c.groups.invariant.permutation c.settle_group.ensures.permutation;
      sorted = c.settle_group.ensures.sorted c.if-not-settle_group.false c.groups.invariant.sorted;
    }
