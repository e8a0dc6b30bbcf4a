-- none of those in front shares a variable with those that were looked at
use Rattle.std.proofs.Common.{take}
use Rattle.gs_joins.specs.Links.{one_has, IsApart}
use Rattle.gs_joins.proofs.links.first_linked.Given as goal

abbrev pub invariant-loop-i : goal.invariant-loop-i
invariant-loop-i l = IsApart (one_has l.lots l.front) (one_has l.lots (take l.i l.rest))
