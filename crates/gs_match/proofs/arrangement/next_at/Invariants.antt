-- the place is one of the rest
use Rattle.std.proofs.Common.{◌<◌, length}
use Rattle.gs_match.proofs.arrangement.next_at.Given as goal

abbrev pub invariant-loop-i : goal.invariant-loop-i
invariant-loop-i l = l.best < length l.rest
