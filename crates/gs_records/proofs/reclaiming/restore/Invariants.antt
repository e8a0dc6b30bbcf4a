use Rattle.std.proofs.Common.{◌≡◌, ◌+◌}
use Rattle.gs_pool.specs.Pool.{aside_count}
use Rattle.gs_reclaim.specs.Holders.{KeepsDead}
use Rattle.gs_records.proofs.reclaiming.restore.Given as goal

abbrev pub invariant-loop-entry : goal.invariant-loop-entry
invariant-loop-entry l = record {
  dead : KeepsDead l.fn.pool l.pool;
  limit : l.pool.limit ≡ l.fn.pool.limit;
  pins : l.pool.pins ≡ l.fn.pool.pins;
  loose : l.pool.loose + aside_count l.pool ≡ l.fn.pool.loose + aside_count l.fn.pool;
}

abbrev pub decreases-loop-entry : goal.decreases-loop-entry
decreases-loop-entry l = aside_count l.pool
