use Rattle.gs_tree.specs.Tree.{height_at}
use Rattle.gs_tree.proofs.removals.+remove_at.Given as goal

abbrev pub decreases-remove_at : goal.decreases-remove_at
decreases-remove_at g l = height_at l.pool.now l.root
