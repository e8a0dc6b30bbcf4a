-- the operations that are left make of the graph what all make of the first one
use Rattle.std.proofs.Common.{◌≡◌, length}
use Rattle.gs_event.specs.Updates.{updated}
use Rattle.gs_graphs.proofs.updates.update.Given as goal

abbrev pub invariant-loop-operation : goal.invariant-loop-operation
invariant-loop-operation l = updated l.graph l.left ≡ updated l.fn.graph l.operations

abbrev pub decreases-loop-operation : goal.decreases-loop-operation
decreases-loop-operation l = length l.left
