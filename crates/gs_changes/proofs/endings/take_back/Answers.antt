use Rattle.gs_tree.specs.Tree.{tree_at}
use Rattle.gs_changes.proofs.BackLemmas.{taken_back, restored}
use Rattle.gs_changes.proofs.endings.take_back.Goals as goal

pub returns-clause-takes : goal.returns-clause-takes
returns-clause-takes c = taken_back c.args.since c.args.pool.now c.free_young.new.pool c.return_aside.new.pool (tree_at c.args.pool.now c.args.root) c.free_young.ensures.frees c.free_young.ensures.marks c.return_aside.ensures

pub returns-clause-undoes : goal.returns-clause-undoes
returns-clause-undoes c = λ p t begun step.
    let new = tree_at c.args.pool.now c.args.root in
    restored c.args.since p c.args.pool.now c.return_aside.new.pool t new begun step (taken_back c.args.since c.args.pool.now c.free_young.new.pool c.return_aside.new.pool new c.free_young.ensures.frees c.free_young.ensures.marks c.return_aside.ensures)
