-- there is no '/' from here on
use Rattle.std.proofs.Common.{◌≡◌, ◌≤◌, false, drop, length}
use Rattle.gs_iri.specs.Output.{has_slash}
use Rattle.gs_iri.proofs.dots.last_slash.Given as goal

abbrev pub invariant-loop-i : goal.invariant-loop-i
invariant-loop-i l = record { within : l.i ≤ length l.bytes; last : has_slash (drop l.i l.bytes) ≡ false }

abbrev pub decreases-loop-i : goal.decreases-loop-i
decreases-loop-i l = l.i
