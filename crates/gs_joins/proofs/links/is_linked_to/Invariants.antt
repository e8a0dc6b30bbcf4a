-- none of those in front that were looked at shares a variable
use Rattle.std.proofs.Common.{take}
use Rattle.gs_joins.specs.Links.{has_variable, one_has, IsApart}
use Rattle.gs_joins.proofs.links.is_linked_to.Given as goal

abbrev pub invariant-loop-i : goal.invariant-loop-i
invariant-loop-i l = IsApart (one_has l.lots (take l.i-index l.front)) (has_variable l.sought)
