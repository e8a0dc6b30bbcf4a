-- what was walked over is appended, and the rest is left
use Rattle.std.proofs.Common.{length}
use Rattle.gs_match.proofs.RangeWalks.{Walks, left_of}
use Rattle.gs_match.proofs.candidates.append_range.Given as goal

abbrev pub invariant-keys : goal.invariant-keys
invariant-keys l = Walks l.keys l.sought l.range l.fn.bound.items l.bound.items l.fn.to.items l.to.items l.next

abbrev pub decreases-keys : goal.decreases-keys
decreases-keys l = length (left_of l.keys l.next)
