use Rattle.std.proofs.Common.{◌≡◌, ◌≤◌, length, slice_index}
use Rattle.gs_dict.specs.Chains.{IsAbove, bucket_at, link_after, link_from}
use Rattle.gs_dict.proofs.chains.above.Given as goal

abbrev pub invariant-loop-link : goal.invariant-loop-link
invariant-loop-link l = record {
  is_above : IsAbove (length l.entries) l.number (bucket_at (length l.heads) l.entries) l.bucket l.above;
  is_link : l.link ≡ link_from (link_after l.entries) (slice_index l.heads) l.bucket l.above;
  given : l.link ≤ length l.entries;
}

abbrev pub decreases-loop-link : goal.decreases-loop-link
decreases-loop-link l = l.link
