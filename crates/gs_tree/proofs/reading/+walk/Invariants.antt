use Rattle.gs_tree.specs.Tree.{height_at}
use Rattle.gs_tree.proofs.reading.+walk.Given as goal

abbrev pub decreases-walk : goal.decreases-walk
decreases-walk g l = height_at l.pool.now l.root
