use Rattle.std.proofs.Common.{IfSome, subst, arith}
use Rattle.gs_tree.specs.Tree.{tree_at}
use Rattle.gs_tree.specs.Joining.{KeepsHeight}
use Rattle.gs_tree.proofs.Rotations.{settled_at, plain, height_in}
use Rattle.gs_tree.proofs.balance.rejoin.Goals as goal

pub returns : goal.returns
returns c =
    let k = subst (λ k. IfSome k (KeepsHeight c.args.pool.now c.args.left c.args.right)) c.in-Some.is c.requires.kept in
    let hl = height_in c.args.pool.now c.args.left (tree_at c.args.pool.now c.args.left) c.requires.can.can.left_root c.requires.can.can.left_stands in
    let hr = height_in c.args.pool.now c.args.right (tree_at c.args.pool.now c.args.right) c.requires.can.can.right_root c.requires.can.can.right_stands in
    settled_at (plain c.args.since c.args.birth c.args.pool.now c.relink.new.pool c.args.top c.args.left c.args.key c.args.right (tree_at c.args.pool.now c.args.left) (tree_at c.args.pool.now c.args.right) c.requires.birth c.requires.can.can
    (omega (arith, hl, hr, k.0.0), omega (arith, hl, hr, k.0.1)) c.relink.ensures)
