use Rattle.std.proofs.Common.{length}
use Rattle.gs_drill.proofs.PlayLemmas.{Playing}
use Rattle.gs_drill.specs.Standing.{Standing, run_state}
use Rattle.gs_drill.proofs.drills.play.Given as goal

abbrev pub invariant-loop-rest : goal.invariant-loop-rest
invariant-loop-rest g l = (st : Standing l.store l.uploads) × Playing l.input l.rest l.number (run_state l.begun st) (g.W.Write.contents l.fn.out) (g.W.Write.contents l.out)

abbrev pub decreases-loop-rest : goal.decreases-loop-rest
decreases-loop-rest g l = length l.rest
