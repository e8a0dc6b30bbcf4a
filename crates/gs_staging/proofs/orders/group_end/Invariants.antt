use Rattle.std.proofs.Common.{length, ◌-◌, ◌<◌, ◌≤◌}
use Rattle.gs_staging.proofs.orders.group_end.Given as goal

abbrev pub invariant-group : goal.invariant-group
invariant-group l = record {
  some : l.from < l.end;
  within : l.end ≤ length l.keys;
}

abbrev pub decreases-group : goal.decreases-group
decreases-group l = length l.keys - l.end
