use Rattle.std.proofs.Common.{◌≡◌, ◌≤◌, ◌+◌, ◌*◌}
use Rattle.gs_pool.specs.Pool.{in_use, aside_count}
use Rattle.gs_reclaim.specs.Reclaims.{Reclaims}
use Rattle.gs_reclaim.specs.Holders.{HasLists}
use Rattle.gs_reclaim.proofs.reclaims.free_unneeded.Given as goal

abbrev pub invariant-loop-freed : goal.invariant-loop-freed
invariant-loop-freed l = record {
  reclaims : Reclaims l.versions l.fn.pool l.pool l.freed;
  pins : l.pool.pins ≡ l.fn.pool.pins;
  most : l.freed ≤ l.n;
  least : l.freed ≤ l.looked;
  cost : l.looked + 2 * in_use l.pool + l.pool.loose ≤ 2 * in_use l.fn.pool + l.fn.pool.loose;
  aside : HasLists l.fn.pool l.versions → aside_count l.pool ≡ 0;
}

abbrev pub decreases-loop-freed : goal.decreases-loop-freed
decreases-loop-freed l = 2 * in_use l.pool + l.pool.loose
