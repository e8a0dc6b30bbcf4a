use Rattle.std.proofs.Common.{◌≤◌, ◌-◌, length, take}
use Rattle.gs_tree.specs.Keys.{IsRising}
use Rattle.gs_tree.proofs.orders.is_rising.Given as goal

abbrev pub invariant-keys : goal.invariant-keys
invariant-keys g l = record {
  some : 1 ≤ l.next;
  rising : IsRising (g.O.KeyOrder.compare l.order) (take l.next l.run);
}

abbrev pub decreases-keys : goal.decreases-keys
decreases-keys g l = length l.run - l.next
