use Rattle.gs_tree.specs.Tree.{height_at}
use Rattle.gs_tree.proofs.unions.+union_at.Given as goal

abbrev pub decreases-union_at : goal.decreases-union_at
decreases-union_at g l = height_at l.pool.now l.root
