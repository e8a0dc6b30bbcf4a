-- bound are the patterns that were gone through
use Rattle.std.proofs.Common.{◌≡◌, [], take}
use Rattle.gs_graphs.specs.Solving.{bindings_of, bound_by}
use Rattle.gs_graphs.proofs.solutions.bind_all.Given as goal

abbrev pub invariant-loop-i : goal.invariant-loop-i
invariant-loop-i l = bindings_of l.bound.items ≡ bound_by l.triples l.patterns [] (take l.i l.choices)
