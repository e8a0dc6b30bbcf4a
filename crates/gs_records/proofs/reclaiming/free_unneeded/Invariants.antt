use Rattle.std.proofs.Common.{◌≡◌, ◌+◌, ◌≤◌}
use Rattle.gs_pool.specs.Pool.{aside_count}
use Rattle.gs_reclaim.specs.Holders.{HasLists}
use Rattle.gs_records.specs.Sweeps.{Sweeps}
use Rattle.gs_records.proofs.reclaiming.free_unneeded.Given as goal

abbrev pub invariant-loop-freed : goal.invariant-loop-freed
invariant-loop-freed l = record {
  sweeps : Sweeps l.versions.seats l.freed l.fn.index l.index l.fn.pool l.pool;
  limit : l.pool.limit ≡ l.fn.pool.limit;
  pins : l.pool.pins ≡ l.fn.pool.pins;
  most : l.freed ≤ l.n;
  least : l.freed ≤ l.looked;
  cost : l.looked + l.pool.loose ≤ l.fn.pool.loose;
  aside : HasLists l.fn.pool l.versions → aside_count l.pool ≡ 0;
}

abbrev pub decreases-loop-freed : goal.decreases-loop-freed
decreases-loop-freed l = l.pool.loose
