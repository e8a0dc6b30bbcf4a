use Rattle.std.proofs.Common.{◌-◌, ◌≤◌, length}
use Rattle.gs_stream.proofs.HeadLemmas.{GoesOn}
use Rattle.gs_stream.proofs.heads.find_empty_line.Given as goal

abbrev pub invariant-loop-place : goal.invariant-loop-place
invariant-loop-place l = record {
  within : l.from ≤ length l.front;
  same : GoesOn l.from l.front;
}

abbrev pub decreases-loop-place : goal.decreases-loop-place
decreases-loop-place l = length l.front - l.from
