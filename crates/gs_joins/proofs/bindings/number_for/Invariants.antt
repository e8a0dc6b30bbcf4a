-- what is found so far is the number by the bindings that were looked at
use Rattle.std.proofs.Common.{◌≡◌, take}
use Rattle.gs_joins.specs.Numbers.{number_for, numbers_of}
use Rattle.gs_joins.proofs.bindings.number_for.Given as goal

abbrev pub invariant-loop-binding : goal.invariant-loop-binding
invariant-loop-binding l = l.found ≡ number_for (numbers_of (take l.binding-index l.bound)) l.name
