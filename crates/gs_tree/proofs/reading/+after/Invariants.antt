use Rattle.gs_tree.specs.Tree.{height_at}
use Rattle.gs_tree.proofs.reading.+after.Given as goal

abbrev pub decreases-after : goal.decreases-after
decreases-after g l = height_at l.pool.now l.root
