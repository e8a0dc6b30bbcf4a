-- with the lines of the runs that are left all are added
use Rattle.std.proofs.Common.{◌≡◌, ◌++◌, drop}
use Rattle.gs_quads.specs.Found.{run_places, bytes_at, KeysAreGiven}
use Rattle.gs_quads.proofs.lines.add_quads.Given as goal

abbrev pub invariant-loop-run : goal.invariant-loop-run
invariant-loop-run l = record {
  given : KeysAreGiven l.source l.left;
  terms : l.lines.terms ≡ l.source.dict.now.terms;
  added : l.lines.items ++ bytes_at l.source (run_places (drop l.run-index l.runs) l.left) ≡ l.fn.lines.items ++ bytes_at l.source (run_places l.runs l.keys);
}
