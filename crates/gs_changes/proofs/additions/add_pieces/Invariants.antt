use Rattle.std.proofs.Common.{length}
use Rattle.gs_changes.proofs.AddLemmas.{Adding}
use Rattle.gs_changes.proofs.additions.add_pieces.Given as goal

abbrev pub invariant-pieces : goal.invariant-pieces
invariant-pieces g l = Adding (g.O.KeyOrder.compare l.order) l.birth l.fn.pool l.pool l.fn.root l.keys l.merged l.rest

abbrev pub decreases-pieces : goal.decreases-pieces
decreases-pieces g l = length l.rest
