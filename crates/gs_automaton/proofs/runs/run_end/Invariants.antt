use Rattle.gs_automaton.specs.Runs.{AllFrom}
use Rattle.gs_automaton.proofs.runs.run_end.Given as goal

abbrev pub invariant-loop-i : goal.invariant-loop-i
invariant-loop-i g l = AllFrom g.R.Run.plain l.text l.fn.from l.i
