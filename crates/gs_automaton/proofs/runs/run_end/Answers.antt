use Rattle.std.proofs.Common.{sym}
use Rattle.gs_automaton.proofs.RunLemmas.{run-more}
use Rattle.gs_automaton.proofs.runs.run_end.Goals as goal

pub loop-i-preserved : goal.loop-i-preserved
loop-i-preserved g c = run-more g.R.Run.plain c.args.text.now c.args.from c.loop-i.i c.loop-i.invariant (sym c.if-not-has.ensures)
