use Rattle.std.proofs.Common.{◌≡◌, ℕ, ◌+◌, ◌-◌, ◌<◌, length}
use Rattle.gs_reclaim.specs.Holders.{AgreesAt, let_go_by}
use Rattle.gs_reclaim.proofs.Following.{stale_by}
use Rattle.gs_reclaim.proofs.holders.follow_pins.Given as goal

abbrev pub invariant-loop-list : goal.invariant-loop-list
invariant-loop-list l = record {
  nodes : l.pool.nodes ≡ l.fn.pool.nodes;
  marks : l.pool.marks ≡ l.fn.pool.marks;
  spare : l.pool.spare ≡ l.fn.pool.spare;
  limit : l.pool.limit ≡ l.fn.pool.limit;
  many : length l.pool.pins ≡ length l.fn.pool.pins;
  follow : (s : ℕ) → s < l.list → AgreesAt l.pool l.versions s;
  loose : l.pool.loose + let_go_by l.pool l.versions ≡ l.fn.pool.loose + let_go_by l.fn.pool l.versions;
}

abbrev pub decreases-loop-list : goal.decreases-loop-list
decreases-loop-list l = (length l.pool.pins - l.list) + stale_by l.pool l.versions
