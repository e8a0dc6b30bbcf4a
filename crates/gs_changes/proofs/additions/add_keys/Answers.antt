use Rattle.std.proofs.Common.{arith}
use Rattle.gs_tree.specs.Tree.{tree_at}
use Rattle.gs_changes.proofs.ChangeLemmas.{draft}
use Rattle.gs_changes.proofs.additions.add_keys.Goals as goal

pub take_back-requires : goal.take_back-requires
take_back-requires g c =
    let half = c.in-Err.ensures.half in
    draft (g.O.KeyOrder.compare c.args.order.now) c.args.birth c.args.pool.now c.add_pieces.new.pool c.in-Err.half.root half.0 0 (tree_at c.args.pool.now c.args.root) (tree_at c.add_pieces.new.pool c.in-Err.half.root) c.requires.earlier half.1

pub returns-in-Err-clause-kept : goal.returns-in-Err-clause-kept
returns-in-Err-clause-kept g c = c.take_back.ensures.undoes c.args.pool.now (tree_at c.args.pool.now c.args.root) (record { earlier = c.requires.earlier; none_aside = c.requires.none_aside; parted = c.nodes_in_use-used.ensures.unmarked }) c.in-Err.ensures.half.1.step

pub returns-in-Err-clause-total : goal.returns-in-Err-clause-total
returns-in-Err-clause-total g c = omega (arith, c.add_pieces.ensures.total, c.take_back.ensures.total)
