-- the bytes so far stand
use Rattle.std.proofs.Common.{◌≡◌, ◌+◌, drop}
use Rattle.gs_escape.specs.Runs.{run_of}
use Rattle.gs_escape.proofs.runs.run.Given as goal

abbrev pub invariant-loop-i : goal.invariant-loop-i
invariant-loop-i l = run_of l.form l.bytes ≡ l.i + run_of l.form (drop l.i l.bytes)
