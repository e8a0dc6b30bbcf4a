use Rattle.std.proofs.Common.{ap, arith}
use Rattle.gs_tree.specs.Tree.{tree_at, height}
use Rattle.gs_tree.proofs.Rotations.{settled_at, plain, height_in}
use Rattle.gs_tree.proofs.balance.settle.Goals as goal

pub overflow_add-right_height : goal.overflow_add-right_height
overflow_add-right_height c =
    omega (arith, c.height_of-right_height.ensures, height_in c.args.pool.now c.args.right (tree_at c.args.pool.now c.args.right) c.requires.can.right_root c.requires.can.right_stands, c.requires.can.right_fits)

pub returns : goal.returns
returns c =
    let hl = height_in c.args.pool.now c.args.left (tree_at c.args.pool.now c.args.left) c.requires.can.left_root c.requires.can.left_stands in
    let hr = height_in c.args.pool.now c.args.right (tree_at c.args.pool.now c.args.right) c.requires.can.right_root c.requires.can.right_stands in
    settled_at (plain c.args.since c.args.birth c.args.pool.now c.link.new.pool c.args.top c.args.left c.args.key c.args.right (tree_at c.args.pool.now c.args.left) (tree_at c.args.pool.now c.args.right) c.requires.birth c.requires.can
    (omega (arith, hl, hr, c.height_of-left_height.ensures, c.height_of-right_height.ensures, c.if-left_height-right_height.false, c.if-right_height-left_height.false), omega (arith, hl, hr, c.height_of-left_height.ensures, c.height_of-right_height.ensures, c.if-left_height-right_height.false, c.if-right_height-left_height.false)) c.link.ensures)

pub lean_left-requires-clause-higher : goal.lean_left-requires-clause-higher
lean_left-requires-clause-higher c = omega (arith, height_in c.args.pool.now c.args.left (tree_at c.args.pool.now c.args.left) c.requires.can.left_root c.requires.can.left_stands, height_in c.args.pool.now c.args.right (tree_at c.args.pool.now c.args.right) c.requires.can.right_root c.requires.can.right_stands, c.height_of-left_height.ensures, c.height_of-right_height.ensures, c.if-left_height-right_height.true, ap (λ r. height (tree_at c.args.pool.now r)) c.in-Some.is, c.requires.near.0)

pub lean_right-requires-clause-higher : goal.lean_right-requires-clause-higher
lean_right-requires-clause-higher c = omega (arith, height_in c.args.pool.now c.args.left (tree_at c.args.pool.now c.args.left) c.requires.can.left_root c.requires.can.left_stands, height_in c.args.pool.now c.args.right (tree_at c.args.pool.now c.args.right) c.requires.can.right_root c.requires.can.right_stands, c.height_of-left_height.ensures, c.height_of-right_height.ensures, c.if-right_height-left_height.true, ap (λ r. height (tree_at c.args.pool.now r)) c.in-Some-right.is, c.requires.near.1)
