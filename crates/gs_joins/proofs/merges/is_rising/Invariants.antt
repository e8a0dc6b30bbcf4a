-- the numbers so far do not fall, and none is above the last
use Rattle.std.proofs.Common.{◌≤◌, ◌<◌, ℕ, get_or}
use Rattle.gs_pool.specs.declared.nodes.Key.{Key}
use Rattle.gs_joins.specs.Lots.{first_of}
use Rattle.gs_joins.proofs.merges.is_rising.Given as goal

abbrev pub invariant-loop-key : goal.invariant-loop-key
invariant-loop-key l = record {
  rising : (a b : ℕ) (d : Key) → a ≤ b → b < l.key-index → first_of l.turn (get_or l.keys a d) ≤ first_of l.turn (get_or l.keys b d);
  last : (a : ℕ) (d : Key) → a < l.key-index → first_of l.turn (get_or l.keys a d) ≤ l.last;
}
