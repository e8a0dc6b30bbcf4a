-- the lines are of the dictionary's terms
use Rattle.std.proofs.Common.{◌≡◌}
use Rattle.gs_storage_tests.proofs.lines.lines_of.Given as goal

abbrev pub invariant-loop-line : goal.invariant-loop-line
invariant-loop-line l = l.lines.terms ≡ l.dict.terms
