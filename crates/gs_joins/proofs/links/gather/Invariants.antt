-- the first numbers are those of lists that hang together
use Rattle.std.proofs.Common.{◌≡◌, ◌≤◌, ◌-◌, length, take}
use Rattle.std.specs.List.Sorted.{IsPermutation}
use Rattle.gs_joins.proofs.links.gather.Given as goal

abbrev pub invariant-lots : goal.invariant-lots
invariant-lots l = record {
  some : 1 ≤ l.many;
  within : l.many ≤ length l.order;
  same : IsPermutation l.fn.order l.order;
  first : take 1 l.order ≡ take 1 l.fn.order;
}

abbrev pub decreases-lots : goal.decreases-lots
decreases-lots l = length l.initial.order - l.many
