use Rattle.std.proofs.Common.{length, ◌-◌, ◌≡◌, ◌≤◌}
use Rattle.std.specs.List.Sorted.{IsPermutation}
use Rattle.gs_staging.specs.Groups.{IsInOrder}
use Rattle.gs_staging.proofs.orders.sort_groups.Given as goal

abbrev pub invariant-groups : goal.invariant-groups
invariant-groups l = record {
  within : l.from ≤ length l.keys;
  long : length l.keys ≡ length l.initial.keys;
  permutation : IsPermutation l.initial.keys l.keys;
  sorted : IsInOrder l.order.dict.now.terms l.keys l.from;
}

abbrev pub decreases-groups : goal.decreases-groups
decreases-groups l = length l.initial.keys - l.from
