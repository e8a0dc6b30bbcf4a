-- the last place so far, or one of the runs that are left
use Rattle.std.proofs.Common.{◌≡◌, drop}
use Rattle.gs_quads.specs.Pieces.{last_place}
use Rattle.gs_quads.specs.Found.{run_places, last_or}
use Rattle.gs_quads.proofs.lines.last_place.Given as goal

abbrev pub invariant-loop-run : goal.invariant-loop-run
invariant-loop-run l = last_or l.last (run_places (drop l.run-index l.runs) l.left) ≡ last_place (run_places l.runs l.keys)
