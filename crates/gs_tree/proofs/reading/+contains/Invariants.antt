use Rattle.gs_tree.specs.Tree.{height_at}
use Rattle.gs_tree.proofs.reading.+contains.Given as goal

abbrev pub decreases-contains : goal.decreases-contains
decreases-contains g l = height_at l.pool.now l.root
