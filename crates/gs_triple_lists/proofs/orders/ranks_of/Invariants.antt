use Rattle.std.proofs.Common.{◌≡◌, ℕ, ◌<◌, ◌-◌, length, slice_index}
use Rattle.gs_triple_lists.specs.Kept.{term_of_number}
use Rattle.gs_triple_lists.specs.Orders.{IsRankOf}
use Rattle.gs_triple_lists.proofs.orders.ranks_of.Given as goal

-- the terms that were gone through have their ranks, and the last of them has this one
abbrev pub invariant-loop-place : goal.invariant-loop-place
invariant-loop-place l = record {
  long : length l.ranks.items ≡ length l.terms;
  each : (j : ℕ) → j < l.place → IsRankOf l.terms l.by_text (term_of_number l.terms (slice_index l.by_text j)) (slice_index l.ranks.items (slice_index l.by_text j));
  last : 0 < l.place → IsRankOf l.terms l.by_text (term_of_number l.terms (slice_index l.by_text (l.place - 1))) l.rank;
}
