use Rattle.std.proofs.Common.{◌-◌, ◌≤◌}
use Rattle.gs_staging.proofs.orders.place_among.Given as goal

abbrev pub invariant-halves : goal.invariant-halves
invariant-halves l = record {
  low : l.low ≤ l.high;
  within : l.high ≤ l.end;
}

abbrev pub decreases-halves : goal.decreases-halves
decreases-halves l = l.high - l.low
