use Rattle.gs_drill.proofs.WritingLemmas.{Writing}
use Rattle.gs_drill.proofs.printing.put.Given as goal

abbrev pub invariant-loop : goal.invariant-loop
invariant-loop g l = Writing (g.W.Write.contents l.initial.out) (g.W.Write.contents l.out) l.bytes l.rest
