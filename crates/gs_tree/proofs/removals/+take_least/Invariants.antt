use Rattle.std.proofs.Common.{Some}
use Rattle.gs_tree.specs.Tree.{height_at}
use Rattle.gs_tree.proofs.removals.+take_least.Given as goal

abbrev pub decreases-take_least : goal.decreases-take_least
decreases-take_least l = height_at l.pool.now (Some l.id)
