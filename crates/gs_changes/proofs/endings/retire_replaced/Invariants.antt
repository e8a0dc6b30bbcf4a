use Rattle.std.proofs.Common.{◌≡◌, ℕ, ◌+◌}
use Rattle.gs_pool.specs.Pool.{mark_at, retired_mark, aside_count, retired_count}
use Rattle.gs_changes.proofs.endings.retire_replaced.Given as goal

abbrev pub invariant-aside : goal.invariant-aside
invariant-aside l = record {
  nodes : l.pool.nodes ≡ l.fn.pool.nodes;
  spare : l.pool.spare ≡ l.fn.pool.spare;
  limit : l.pool.limit ≡ l.fn.pool.limit;
  marks : (x : ℕ) → retired_mark l.death (mark_at l.pool x) ≡ retired_mark l.death (mark_at l.fn.pool x);
  total : retired_count l.pool + aside_count l.pool ≡ retired_count l.fn.pool + aside_count l.fn.pool;
}

abbrev pub decreases-aside : goal.decreases-aside
decreases-aside l = aside_count l.pool
