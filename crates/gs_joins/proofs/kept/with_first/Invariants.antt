-- the numbers so far
use Rattle.std.proofs.Common.{◌≡◌, ◌<◌, ℕ, length, get_or}
use Rattle.gs_joins.proofs.kept.with_first.Given as goal

abbrev pub invariant-loop-i : goal.invariant-loop-i
invariant-loop-i l = record {
  len : length l.order.items ≡ l.i;
  is : (j : ℕ) → j < l.i → get_or l.order.items j 0 ≡ j;
}
