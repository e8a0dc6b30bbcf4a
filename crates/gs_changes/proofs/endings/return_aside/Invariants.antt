use Rattle.std.proofs.Common.{◌≡◌, ℕ}
use Rattle.gs_pool.specs.Pool.{mark_at, aside_count, retired_count}
use Rattle.gs_changes.specs.Endings.{returned}
use Rattle.gs_changes.proofs.endings.return_aside.Given as goal

abbrev pub invariant-aside : goal.invariant-aside
invariant-aside l = record {
  nodes : l.pool.nodes ≡ l.fn.pool.nodes;
  spare : l.pool.spare ≡ l.fn.pool.spare;
  marks : (x : ℕ) → returned (mark_at l.pool x) ≡ returned (mark_at l.fn.pool x);
  retired : retired_count l.pool ≡ retired_count l.fn.pool;
}

abbrev pub decreases-aside : goal.decreases-aside
decreases-aside l = aside_count l.pool
