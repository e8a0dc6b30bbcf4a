-- the keys that were passed have less
use Rattle.std.proofs.Common.{◌≤◌, ◌<◌, ◌-◌, ℕ, length, get_or}
use Rattle.gs_pool.specs.declared.nodes.Key.{Key}
use Rattle.gs_joins.specs.Lots.{first_of}
use Rattle.gs_joins.proofs.merges.from_number.Given as goal

abbrev pub invariant-loop-at : goal.invariant-loop-at
invariant-loop-at l = record {
  up : l.from ≤ l.at;
  within : l.at ≤ length l.keys;
  less : (k : ℕ) (d : Key) → l.from ≤ k → k < l.at → first_of l.turn (get_or l.keys k d) < l.number;
}

abbrev pub decreases-loop-at : goal.decreases-loop-at
decreases-loop-at l = length l.initial.keys - l.at
