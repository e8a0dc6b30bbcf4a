-- what is found so far is the newest row of those that were looked at
use Rattle.std.proofs.Common.{take}
use Rattle.gs_plain.proofs.RowLemmas.{IsNewest}
use Rattle.gs_plain.proofs.books.newest.Given as goal

abbrev pub invariant-loop-i : goal.invariant-loop-i
invariant-loop-i l = IsNewest l.rows (take l.i l.rows) l.target l.found
