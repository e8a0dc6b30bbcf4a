-- what is found of the lists that were gone through
use Rattle.std.proofs.Common.{take}
use Rattle.gs_match.proofs.SolveLemmas.{Gathered}
use Rattle.gs_match.proofs.search.collect.Given as goal

abbrev pub invariant-loop-i : goal.invariant-loop-i
invariant-loop-i l = Gathered l.order.dict.now.terms l.lots (take l.i l.lots) l.found
