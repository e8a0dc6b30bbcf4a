use Rattle.std.proofs.Common.{◌<◌, ◌+◌, ◌-◌, Some, arith}
use Rattle.gs_tree.specs.Tree.{tree_at, height, height_at}
use Rattle.gs_tree.proofs.Rotations.{height_in}
use Rattle.gs_tree.proofs.Joins.{right_falls, right_can, right_used, right_plain, right_room, right_settle, right_near, right_done, left_falls, left_can, left_used, left_plain, left_room, left_settle, left_near, left_done}
use Rattle.gs_tree.proofs.balance.+join.Goals as goal

pub join-inner-requires : goal.join-inner-requires
join-inner-requires t c =
    let high : height (tree_at c.args.pool.now c.args.right) + 2 < height (tree_at c.args.pool.now c.args.left) = omega (arith, height_in c.args.pool.now c.args.left (tree_at c.args.pool.now c.args.left) c.requires.can.can.left_root c.requires.can.can.left_stands, height_in c.args.pool.now c.args.right (tree_at c.args.pool.now c.args.right) c.requires.can.can.right_root c.requires.can.can.right_stands, c.height_of-left_height.ensures, c.height_of-right_height.ensures, c.if-left_height-right_height.true) in
    let falls : (height_at c.args.pool.now c.get-node.result.right - height_at c.args.pool.now c.args.right) + (height_at c.args.pool.now c.args.right - height_at c.args.pool.now c.get-node.result.right) < t = omega (arith, c.decreases, right_falls c.args.since c.args.birth c.args.pool.now c.args.top c.args.key c.args.left (tree_at c.args.pool.now c.args.left) c.args.right (tree_at c.args.pool.now c.args.right) c.requires.can c.in-Some.id c.get-node.result c.in-Some.is c.get-node.ensures high) in
    (falls, (right_can c.args.since c.args.birth c.args.pool.now c.args.top c.args.key c.args.left (tree_at c.args.pool.now c.args.left) c.args.right (tree_at c.args.pool.now c.args.right) c.requires.can c.in-Some.id c.get-node.result c.in-Some.is c.get-node.ensures high, c.requires.birth))

pub copy_if_older-turned-requires-clause-used : goal.copy_if_older-turned-requires-clause-used
copy_if_older-turned-requires-clause-used t c =
    let high : height (tree_at c.args.pool.now c.args.right) + 2 < height (tree_at c.args.pool.now c.args.left) = omega (arith, height_in c.args.pool.now c.args.left (tree_at c.args.pool.now c.args.left) c.requires.can.can.left_root c.requires.can.can.left_stands, height_in c.args.pool.now c.args.right (tree_at c.args.pool.now c.args.right) c.requires.can.can.right_root c.requires.can.can.right_stands, c.height_of-left_height.ensures, c.height_of-right_height.ensures, c.if-left_height-right_height.true) in
    right_used c.args.since c.args.birth c.args.pool.now c.args.top c.args.key c.args.left (tree_at c.args.pool.now c.args.left) c.args.right (tree_at c.args.pool.now c.args.right) c.requires.can c.in-Some.id c.get-node.result c.in-Some.is c.get-node.ensures high c.join-inner.new.pool c.join-inner.result c.join-inner.ensures

pub copy_if_older-turned-requires-clause-room : goal.copy_if_older-turned-requires-clause-room
copy_if_older-turned-requires-clause-room t c =
    let high : height (tree_at c.args.pool.now c.args.right) + 2 < height (tree_at c.args.pool.now c.args.left) = omega (arith, height_in c.args.pool.now c.args.left (tree_at c.args.pool.now c.args.left) c.requires.can.can.left_root c.requires.can.can.left_stands, height_in c.args.pool.now c.args.right (tree_at c.args.pool.now c.args.right) c.requires.can.can.right_root c.requires.can.can.right_stands, c.height_of-left_height.ensures, c.height_of-right_height.ensures, c.if-left_height-right_height.true) in
    right_room c.args.since c.args.birth c.args.pool.now c.args.top c.args.key c.args.left (tree_at c.args.pool.now c.args.left) c.args.right (tree_at c.args.pool.now c.args.right) c.requires.can c.in-Some.id c.get-node.result c.in-Some.is c.get-node.ensures high c.join-inner.new.pool c.join-inner.result c.join-inner.ensures

pub settle-requires-clause-can : goal.settle-requires-clause-can
settle-requires-clause-can t c =
    let high : height (tree_at c.args.pool.now c.args.right) + 2 < height (tree_at c.args.pool.now c.args.left) = omega (arith, height_in c.args.pool.now c.args.left (tree_at c.args.pool.now c.args.left) c.requires.can.can.left_root c.requires.can.can.left_stands, height_in c.args.pool.now c.args.right (tree_at c.args.pool.now c.args.right) c.requires.can.can.right_root c.requires.can.can.right_stands, c.height_of-left_height.ensures, c.height_of-right_height.ensures, c.if-left_height-right_height.true) in
    right_settle c.args.since c.args.birth c.args.pool.now c.args.top c.args.key c.args.left (tree_at c.args.pool.now c.args.left) c.args.right (tree_at c.args.pool.now c.args.right) c.requires.can c.in-Some.id c.get-node.result c.in-Some.is c.get-node.ensures high c.join-inner.new.pool c.join-inner.result c.join-inner.ensures c.copy_if_older-turned.new.pool c.copy_if_older-turned.result c.copy_if_older-turned.ensures

pub settle-requires-clause-near : goal.settle-requires-clause-near
settle-requires-clause-near t c =
    let high : height (tree_at c.args.pool.now c.args.right) + 2 < height (tree_at c.args.pool.now c.args.left) = omega (arith, height_in c.args.pool.now c.args.left (tree_at c.args.pool.now c.args.left) c.requires.can.can.left_root c.requires.can.can.left_stands, height_in c.args.pool.now c.args.right (tree_at c.args.pool.now c.args.right) c.requires.can.can.right_root c.requires.can.can.right_stands, c.height_of-left_height.ensures, c.height_of-right_height.ensures, c.if-left_height-right_height.true) in
    right_near c.args.since c.args.birth c.args.pool.now c.args.top c.args.key c.args.left (tree_at c.args.pool.now c.args.left) c.args.right (tree_at c.args.pool.now c.args.right) c.requires.can c.in-Some.id c.get-node.result c.in-Some.is c.get-node.ensures high c.join-inner.new.pool c.join-inner.result c.join-inner.ensures c.copy_if_older-turned.new.pool c.copy_if_older-turned.result c.copy_if_older-turned.ensures

pub returns-then-left_height-right_height : goal.returns-then-left_height-right_height
returns-then-left_height-right_height t c =
    let high : height (tree_at c.args.pool.now c.args.right) + 2 < height (tree_at c.args.pool.now c.args.left) = omega (arith, height_in c.args.pool.now c.args.left (tree_at c.args.pool.now c.args.left) c.requires.can.can.left_root c.requires.can.can.left_stands, height_in c.args.pool.now c.args.right (tree_at c.args.pool.now c.args.right) c.requires.can.can.right_root c.requires.can.can.right_stands, c.height_of-left_height.ensures, c.height_of-right_height.ensures, c.if-left_height-right_height.true) in
    right_done c.args.since c.args.birth c.args.pool.now c.args.top c.args.key c.args.left (tree_at c.args.pool.now c.args.left) c.args.right (tree_at c.args.pool.now c.args.right) c.requires.can c.in-Some.id c.get-node.result c.in-Some.is c.get-node.ensures high c.join-inner.new.pool c.join-inner.result c.join-inner.ensures c.copy_if_older-turned.new.pool c.copy_if_older-turned.result c.copy_if_older-turned.ensures c.settle.new.pool c.settle.result (tree_at c.settle.new.pool (Some c.settle.result)) c.settle.ensures

pub join-inner-requires-then-right_height-left_height : goal.join-inner-requires-then-right_height-left_height
join-inner-requires-then-right_height-left_height t c =
    let high : height (tree_at c.args.pool.now c.args.left) + 2 < height (tree_at c.args.pool.now c.args.right) = omega (arith, height_in c.args.pool.now c.args.left (tree_at c.args.pool.now c.args.left) c.requires.can.can.left_root c.requires.can.can.left_stands, height_in c.args.pool.now c.args.right (tree_at c.args.pool.now c.args.right) c.requires.can.can.right_root c.requires.can.can.right_stands, c.height_of-left_height.ensures, c.height_of-right_height.ensures, c.if-right_height-left_height.true) in
    let falls : (height_at c.args.pool.now c.args.left - height_at c.args.pool.now c.get-node-then-right_height-left_height.result.left) + (height_at c.args.pool.now c.get-node-then-right_height-left_height.result.left - height_at c.args.pool.now c.args.left) < t = omega (arith, c.decreases, left_falls c.args.since c.args.birth c.args.pool.now c.args.top c.args.key c.args.left (tree_at c.args.pool.now c.args.left) c.args.right (tree_at c.args.pool.now c.args.right) c.requires.can c.in-Some-right.id c.get-node-then-right_height-left_height.result c.in-Some-right.is c.get-node-then-right_height-left_height.ensures high) in
    (falls, (left_can c.args.since c.args.birth c.args.pool.now c.args.top c.args.key c.args.left (tree_at c.args.pool.now c.args.left) c.args.right (tree_at c.args.pool.now c.args.right) c.requires.can c.in-Some-right.id c.get-node-then-right_height-left_height.result c.in-Some-right.is c.get-node-then-right_height-left_height.ensures high, c.requires.birth))

pub copy_if_older-turned-requires-then-right_height-left_height-clause-used : goal.copy_if_older-turned-requires-then-right_height-left_height-clause-used
copy_if_older-turned-requires-then-right_height-left_height-clause-used t c =
    let high : height (tree_at c.args.pool.now c.args.left) + 2 < height (tree_at c.args.pool.now c.args.right) = omega (arith, height_in c.args.pool.now c.args.left (tree_at c.args.pool.now c.args.left) c.requires.can.can.left_root c.requires.can.can.left_stands, height_in c.args.pool.now c.args.right (tree_at c.args.pool.now c.args.right) c.requires.can.can.right_root c.requires.can.can.right_stands, c.height_of-left_height.ensures, c.height_of-right_height.ensures, c.if-right_height-left_height.true) in
    left_used c.args.since c.args.birth c.args.pool.now c.args.top c.args.key c.args.left (tree_at c.args.pool.now c.args.left) c.args.right (tree_at c.args.pool.now c.args.right) c.requires.can c.in-Some-right.id c.get-node-then-right_height-left_height.result c.in-Some-right.is c.get-node-then-right_height-left_height.ensures high c.join-inner-then-right_height-left_height.new.pool c.join-inner-then-right_height-left_height.result c.join-inner-then-right_height-left_height.ensures

pub copy_if_older-turned-requires-then-right_height-left_height-clause-room : goal.copy_if_older-turned-requires-then-right_height-left_height-clause-room
copy_if_older-turned-requires-then-right_height-left_height-clause-room t c =
    let high : height (tree_at c.args.pool.now c.args.left) + 2 < height (tree_at c.args.pool.now c.args.right) = omega (arith, height_in c.args.pool.now c.args.left (tree_at c.args.pool.now c.args.left) c.requires.can.can.left_root c.requires.can.can.left_stands, height_in c.args.pool.now c.args.right (tree_at c.args.pool.now c.args.right) c.requires.can.can.right_root c.requires.can.can.right_stands, c.height_of-left_height.ensures, c.height_of-right_height.ensures, c.if-right_height-left_height.true) in
    left_room c.args.since c.args.birth c.args.pool.now c.args.top c.args.key c.args.left (tree_at c.args.pool.now c.args.left) c.args.right (tree_at c.args.pool.now c.args.right) c.requires.can c.in-Some-right.id c.get-node-then-right_height-left_height.result c.in-Some-right.is c.get-node-then-right_height-left_height.ensures high c.join-inner-then-right_height-left_height.new.pool c.join-inner-then-right_height-left_height.result c.join-inner-then-right_height-left_height.ensures

pub settle-requires-then-right_height-left_height-clause-can : goal.settle-requires-then-right_height-left_height-clause-can
settle-requires-then-right_height-left_height-clause-can t c =
    let high : height (tree_at c.args.pool.now c.args.left) + 2 < height (tree_at c.args.pool.now c.args.right) = omega (arith, height_in c.args.pool.now c.args.left (tree_at c.args.pool.now c.args.left) c.requires.can.can.left_root c.requires.can.can.left_stands, height_in c.args.pool.now c.args.right (tree_at c.args.pool.now c.args.right) c.requires.can.can.right_root c.requires.can.can.right_stands, c.height_of-left_height.ensures, c.height_of-right_height.ensures, c.if-right_height-left_height.true) in
    left_settle c.args.since c.args.birth c.args.pool.now c.args.top c.args.key c.args.left (tree_at c.args.pool.now c.args.left) c.args.right (tree_at c.args.pool.now c.args.right) c.requires.can c.in-Some-right.id c.get-node-then-right_height-left_height.result c.in-Some-right.is c.get-node-then-right_height-left_height.ensures high c.join-inner-then-right_height-left_height.new.pool c.join-inner-then-right_height-left_height.result c.join-inner-then-right_height-left_height.ensures c.copy_if_older-turned-then-right_height-left_height.new.pool c.copy_if_older-turned-then-right_height-left_height.result c.copy_if_older-turned-then-right_height-left_height.ensures

pub settle-requires-then-right_height-left_height-clause-near : goal.settle-requires-then-right_height-left_height-clause-near
settle-requires-then-right_height-left_height-clause-near t c =
    let high : height (tree_at c.args.pool.now c.args.left) + 2 < height (tree_at c.args.pool.now c.args.right) = omega (arith, height_in c.args.pool.now c.args.left (tree_at c.args.pool.now c.args.left) c.requires.can.can.left_root c.requires.can.can.left_stands, height_in c.args.pool.now c.args.right (tree_at c.args.pool.now c.args.right) c.requires.can.can.right_root c.requires.can.can.right_stands, c.height_of-left_height.ensures, c.height_of-right_height.ensures, c.if-right_height-left_height.true) in
    left_near c.args.since c.args.birth c.args.pool.now c.args.top c.args.key c.args.left (tree_at c.args.pool.now c.args.left) c.args.right (tree_at c.args.pool.now c.args.right) c.requires.can c.in-Some-right.id c.get-node-then-right_height-left_height.result c.in-Some-right.is c.get-node-then-right_height-left_height.ensures high c.join-inner-then-right_height-left_height.new.pool c.join-inner-then-right_height-left_height.result c.join-inner-then-right_height-left_height.ensures c.copy_if_older-turned-then-right_height-left_height.new.pool c.copy_if_older-turned-then-right_height-left_height.result c.copy_if_older-turned-then-right_height-left_height.ensures

pub returns-then-right_height-left_height : goal.returns-then-right_height-left_height
returns-then-right_height-left_height t c =
    let high : height (tree_at c.args.pool.now c.args.left) + 2 < height (tree_at c.args.pool.now c.args.right) = omega (arith, height_in c.args.pool.now c.args.left (tree_at c.args.pool.now c.args.left) c.requires.can.can.left_root c.requires.can.can.left_stands, height_in c.args.pool.now c.args.right (tree_at c.args.pool.now c.args.right) c.requires.can.can.right_root c.requires.can.can.right_stands, c.height_of-left_height.ensures, c.height_of-right_height.ensures, c.if-right_height-left_height.true) in
    left_done c.args.since c.args.birth c.args.pool.now c.args.top c.args.key c.args.left (tree_at c.args.pool.now c.args.left) c.args.right (tree_at c.args.pool.now c.args.right) c.requires.can c.in-Some-right.id c.get-node-then-right_height-left_height.result c.in-Some-right.is c.get-node-then-right_height-left_height.ensures high c.join-inner-then-right_height-left_height.new.pool c.join-inner-then-right_height-left_height.result c.join-inner-then-right_height-left_height.ensures c.copy_if_older-turned-then-right_height-left_height.new.pool c.copy_if_older-turned-then-right_height-left_height.result c.copy_if_older-turned-then-right_height-left_height.ensures c.settle-then-right_height-left_height.new.pool c.settle-then-right_height-left_height.result (tree_at c.settle-then-right_height-left_height.new.pool (Some c.settle-then-right_height-left_height.result)) c.settle-then-right_height-left_height.ensures

pub copy_if_older-turned-requires-clause-unlisted : goal.copy_if_older-turned-requires-clause-unlisted
copy_if_older-turned-requires-clause-unlisted t c =
    let high : height (tree_at c.args.pool.now c.args.right) + 2 < height (tree_at c.args.pool.now c.args.left) = omega (arith, height_in c.args.pool.now c.args.left (tree_at c.args.pool.now c.args.left) c.requires.can.can.left_root c.requires.can.can.left_stands, height_in c.args.pool.now c.args.right (tree_at c.args.pool.now c.args.right) c.requires.can.can.right_root c.requires.can.can.right_stands, c.height_of-left_height.ensures, c.height_of-right_height.ensures, c.if-left_height-right_height.true) in
    right_plain c.args.since c.args.birth c.args.pool.now c.args.top c.args.key c.args.left (tree_at c.args.pool.now c.args.left) c.args.right (tree_at c.args.pool.now c.args.right) c.requires.can c.in-Some.id c.get-node.result c.in-Some.is c.get-node.ensures high c.join-inner.new.pool c.join-inner.result c.join-inner.ensures

pub copy_if_older-turned-requires-then-right_height-left_height-clause-unlisted : goal.copy_if_older-turned-requires-then-right_height-left_height-clause-unlisted
copy_if_older-turned-requires-then-right_height-left_height-clause-unlisted t c =
    let high : height (tree_at c.args.pool.now c.args.left) + 2 < height (tree_at c.args.pool.now c.args.right) = omega (arith, height_in c.args.pool.now c.args.left (tree_at c.args.pool.now c.args.left) c.requires.can.can.left_root c.requires.can.can.left_stands, height_in c.args.pool.now c.args.right (tree_at c.args.pool.now c.args.right) c.requires.can.can.right_root c.requires.can.can.right_stands, c.height_of-left_height.ensures, c.height_of-right_height.ensures, c.if-right_height-left_height.true) in
    left_plain c.args.since c.args.birth c.args.pool.now c.args.top c.args.key c.args.left (tree_at c.args.pool.now c.args.left) c.args.right (tree_at c.args.pool.now c.args.right) c.requires.can c.in-Some-right.id c.get-node-then-right_height-left_height.result c.in-Some-right.is c.get-node-then-right_height-left_height.ensures high c.join-inner-then-right_height-left_height.new.pool c.join-inner-then-right_height-left_height.result c.join-inner-then-right_height-left_height.ensures

pub settle-requires-2-clause-near : goal.settle-requires-2-clause-near
settle-requires-2-clause-near t c =
    (omega (arith, height_in c.args.pool.now c.args.left (tree_at c.args.pool.now c.args.left) c.requires.can.can.left_root c.requires.can.can.left_stands, height_in c.args.pool.now c.args.right (tree_at c.args.pool.now c.args.right) c.requires.can.can.right_root c.requires.can.can.right_stands, c.height_of-left_height.ensures, c.height_of-right_height.ensures, c.if-left_height-right_height.false, c.if-right_height-left_height.false), omega (arith, height_in c.args.pool.now c.args.left (tree_at c.args.pool.now c.args.left) c.requires.can.can.left_root c.requires.can.can.left_stands, height_in c.args.pool.now c.args.right (tree_at c.args.pool.now c.args.right) c.requires.can.can.right_root c.requires.can.can.right_stands, c.height_of-left_height.ensures, c.height_of-right_height.ensures, c.if-left_height-right_height.false, c.if-right_height-left_height.false))
