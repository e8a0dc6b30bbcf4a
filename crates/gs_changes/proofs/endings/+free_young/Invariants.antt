use Rattle.gs_tree.specs.Tree.{height_at}
use Rattle.gs_changes.proofs.endings.+free_young.Given as goal

abbrev pub decreases-free_young : goal.decreases-free_young
decreases-free_young l = height_at l.pool.now l.root
