use Rattle.std.proofs.Common.{◌≡◌, ◌-◌, ◌≤◌, length, drop}
use Rattle.gs_stream.specs.Heads.{stripped}
use Rattle.gs_stream.proofs.heads.leading.Given as goal

abbrev pub invariant-loop-size : goal.invariant-loop-size
invariant-loop-size l = record {
  within : l.count ≤ length l.buffer;
  same : stripped (drop l.count l.buffer) ≡ stripped l.buffer;
}

abbrev pub decreases-loop-size : goal.decreases-loop-size
decreases-loop-size l = length l.buffer - l.count
