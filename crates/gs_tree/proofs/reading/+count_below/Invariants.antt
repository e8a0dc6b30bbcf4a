use Rattle.gs_tree.specs.Tree.{height_at}
use Rattle.gs_tree.proofs.reading.+count_below.Given as goal

abbrev pub decreases-count_below : goal.decreases-count_below
decreases-count_below l = height_at l.pool.now l.root
