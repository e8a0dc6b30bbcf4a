use Rattle.gs_lex.specs.Runs as spec
use Rattle.gs_automaton.specs.Runs.{AllFrom}
use Rattle.gs_lex.proofs.runs.comment_run.Given as goal

abbrev pub invariant-loop-i : goal.invariant-loop-i
invariant-loop-i l = AllFrom spec.plain_comment l.text l.fn.from l.i
