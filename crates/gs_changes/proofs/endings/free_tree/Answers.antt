use Rattle.gs_tree.specs.Tree.{tree_at}
use Rattle.gs_changes.proofs.FreeLemmas.{tree_freed}
use Rattle.gs_changes.proofs.endings.free_tree.Goals as goal

pub returns-clause-frees : goal.returns-clause-frees
returns-clause-frees c = tree_freed c.args.pool.now c.free_young.new.pool (tree_at c.args.pool.now c.args.root) c.requires.apart c.free_young.ensures.frees c.free_young.ensures.marks
