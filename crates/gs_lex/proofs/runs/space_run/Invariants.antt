use Rattle.gs_automaton.specs.Classes as class
use Rattle.gs_automaton.specs.Runs.{AllFrom}
use Rattle.gs_lex.proofs.runs.space_run.Given as goal

abbrev pub invariant-loop-i : goal.invariant-loop-i
invariant-loop-i l = AllFrom class.is_ws l.text l.fn.from l.i
