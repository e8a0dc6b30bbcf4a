use Rattle.std.proofs.Common.{◌<◌, ◌≤◌, Some, refl, ap, arith, ◌∙◌, get_or}
use Rattle.gs_pool.specs.Pool.{plain}
use Rattle.gs_tree.proofs.TreeLemmas.{plain_found, one_same}
use Rattle.gs_tree.specs.Tree.{fork, height, tree_at}
use Rattle.gs_tree.proofs.Rotations.{root_in, height_in, settled_at}
use Rattle.gs_tree.proofs.RotationsRight.{turn, single_low, single, turn2, double_far, double_high, double_sides, double}
use Rattle.gs_tree.proofs.Levels.{root_plain, older_root}
use Rattle.gs_tree.proofs.Costs.{copies_some}
use Rattle.gs_tree.proofs.balance.lean_right.Goals as goal

pub height_of-requires : goal.height_of-requires
height_of-requires c =
    let a = turn c.args.since c.args.birth c.args.pool.now c.copy_if_older-turned.new.pool c.args.top c.args.right c.copy_if_older-turned.result c.get-below.result (tree_at c.args.pool.now (Some c.args.right)) (tree_at c.args.pool.now c.args.left) c.args.left c.requires.can c.get-below.ensures c.copy_if_older-turned.ensures in
    root_in c.copy_if_older-turned.new.pool c.get-below.result.right a.x a.left_is a.sx

pub height_of-requires-2 : goal.height_of-requires-2
height_of-requires-2 c =
    let a = turn c.args.since c.args.birth c.args.pool.now c.copy_if_older-turned.new.pool c.args.top c.args.right c.copy_if_older-turned.result c.get-below.result (tree_at c.args.pool.now (Some c.args.right)) (tree_at c.args.pool.now c.args.left) c.args.left c.requires.can c.get-below.ensures c.copy_if_older-turned.ensures in
    root_in c.copy_if_older-turned.new.pool c.get-below.result.left a.y a.right_is a.sy

pub link-requires-clause-right : goal.link-requires-clause-right
link-requires-clause-right c =
    let a = turn c.args.since c.args.birth c.args.pool.now c.copy_if_older-turned.new.pool c.args.top c.args.right c.copy_if_older-turned.result c.get-below.result (tree_at c.args.pool.now (Some c.args.right)) (tree_at c.args.pool.now c.args.left) c.args.left c.requires.can c.get-below.ensures c.copy_if_older-turned.ensures in
    root_in c.copy_if_older-turned.new.pool c.get-below.result.left a.y a.right_is a.sy

pub link-requires-clause-right_fits : goal.link-requires-clause-right_fits
link-requires-clause-right_fits c =
    let a = turn c.args.since c.args.birth c.args.pool.now c.copy_if_older-turned.new.pool c.args.top c.args.right c.copy_if_older-turned.result c.get-below.result (tree_at c.args.pool.now (Some c.args.right)) (tree_at c.args.pool.now c.args.left) c.args.left c.requires.can c.get-below.ensures c.copy_if_older-turned.ensures in
    omega (arith, height_in c.copy_if_older-turned.new.pool c.get-below.result.left a.y a.right_is a.sy, c.requires.can.right_fits, ap height a.is)

pub link-requires-then-height_of-clause-right : goal.link-requires-then-height_of-clause-right
link-requires-then-height_of-clause-right c =
    let a = turn c.args.since c.args.birth c.args.pool.now c.copy_if_older-turned.new.pool c.args.top c.args.right c.copy_if_older-turned.result c.get-below.result (tree_at c.args.pool.now (Some c.args.right)) (tree_at c.args.pool.now c.args.left) c.args.left c.requires.can c.get-below.ensures c.copy_if_older-turned.ensures in
    let s = single_low c.args.since c.args.birth c.args.pool.now c.copy_if_older-turned.new.pool c.args.top c.args.right c.copy_if_older-turned.result c.get-below.result c.args.key (tree_at c.args.pool.now (Some c.args.right)) (tree_at c.args.pool.now c.args.left) c.args.left c.requires.birth c.requires.can c.requires.higher a c.link.new.pool c.link.ensures in root_in c.link.new.pool c.get-below.result.right a.x a.left_is s.high

pub link-requires-then-height_of-clause-right_fits : goal.link-requires-then-height_of-clause-right_fits
link-requires-then-height_of-clause-right_fits c =
    let a = turn c.args.since c.args.birth c.args.pool.now c.copy_if_older-turned.new.pool c.args.top c.args.right c.copy_if_older-turned.result c.get-below.result (tree_at c.args.pool.now (Some c.args.right)) (tree_at c.args.pool.now c.args.left) c.args.left c.requires.can c.get-below.ensures c.copy_if_older-turned.ensures in
    let s = single_low c.args.since c.args.birth c.args.pool.now c.copy_if_older-turned.new.pool c.args.top c.args.right c.copy_if_older-turned.result c.get-below.result c.args.key (tree_at c.args.pool.now (Some c.args.right)) (tree_at c.args.pool.now c.args.left) c.args.left c.requires.birth c.requires.can c.requires.higher a c.link.new.pool c.link.ensures in omega (arith, height_in c.link.new.pool c.get-below.result.right a.x a.left_is s.high, c.requires.can.right_fits, ap height a.is)

pub link-requires-then-height_of-clause-left_fits : goal.link-requires-then-height_of-clause-left_fits
link-requires-then-height_of-clause-left_fits c =
    let a = turn c.args.since c.args.birth c.args.pool.now c.copy_if_older-turned.new.pool c.args.top c.args.right c.copy_if_older-turned.result c.get-below.result (tree_at c.args.pool.now (Some c.args.right)) (tree_at c.args.pool.now c.args.left) c.args.left c.requires.can c.get-below.ensures c.copy_if_older-turned.ensures in
    let s = single_low c.args.since c.args.birth c.args.pool.now c.copy_if_older-turned.new.pool c.args.top c.args.right c.copy_if_older-turned.result c.get-below.result c.args.key (tree_at c.args.pool.now (Some c.args.right)) (tree_at c.args.pool.now c.args.left) c.args.left c.requires.birth c.requires.can c.requires.higher a c.link.new.pool c.link.ensures in omega (arith, height_in c.link.new.pool (Some c.args.top) (fork c.args.top c.args.birth (tree_at c.args.pool.now c.args.left) c.args.key a.y) refl s.low, c.requires.can.right_fits, ap height a.is, c.requires.can.left_fits)

pub returns-then-height_of : goal.returns-then-height_of
returns-then-height_of c =
    let a = turn c.args.since c.args.birth c.args.pool.now c.copy_if_older-turned.new.pool c.args.top c.args.right c.copy_if_older-turned.result c.get-below.result (tree_at c.args.pool.now (Some c.args.right)) (tree_at c.args.pool.now c.args.left) c.args.left c.requires.can c.get-below.ensures c.copy_if_older-turned.ensures in
    let lower : height a.y ≤ height a.x = omega (arith, c.if-height_of.true, c.height_of.ensures, c.height_of-2.ensures, height_in c.copy_if_older-turned.new.pool c.get-below.result.right a.x a.left_is a.sx, height_in c.copy_if_older-turned.new.pool c.get-below.result.left a.y a.right_is a.sy) in settled_at (single c.args.since c.args.birth c.args.pool.now c.copy_if_older-turned.new.pool c.args.top c.args.right c.copy_if_older-turned.result c.get-below.result c.args.key (tree_at c.args.pool.now (Some c.args.right)) (tree_at c.args.pool.now c.args.left) c.args.left c.requires.birth c.requires.can c.requires.higher a c.link.new.pool c.link-then-height_of.new.pool c.link.ensures lower c.link-then-height_of.ensures)

pub link-requires-2-clause-right : goal.link-requires-2-clause-right
link-requires-2-clause-right c =
    let a = turn c.args.since c.args.birth c.args.pool.now c.copy_if_older-turned.new.pool c.args.top c.args.right c.copy_if_older-turned.result c.get-below.result (tree_at c.args.pool.now (Some c.args.right)) (tree_at c.args.pool.now c.args.left) c.args.left c.requires.can c.get-below.ensures c.copy_if_older-turned.ensures in
    let b = turn2 c.args.since c.args.birth c.args.pool.now c.copy_if_older-turned.new.pool c.args.top c.args.right c.copy_if_older-turned.result c.get-below.result c.args.key (tree_at c.args.pool.now (Some c.args.right)) (tree_at c.args.pool.now c.args.left) c.args.left c.requires.birth c.requires.can c.requires.higher a c.copy_if_older-middle.new.pool c.in-Some.inner c.copy_if_older-middle.result c.get-node.result c.in-Some.is c.get-node.ensures c.copy_if_older-middle.ensures in
    root_in c.copy_if_older-middle.new.pool c.get-below.result.right a.x a.left_is b.sx

pub link-requires-2-clause-left : goal.link-requires-2-clause-left
link-requires-2-clause-left c =
    let a = turn c.args.since c.args.birth c.args.pool.now c.copy_if_older-turned.new.pool c.args.top c.args.right c.copy_if_older-turned.result c.get-below.result (tree_at c.args.pool.now (Some c.args.right)) (tree_at c.args.pool.now c.args.left) c.args.left c.requires.can c.get-below.ensures c.copy_if_older-turned.ensures in
    let b = turn2 c.args.since c.args.birth c.args.pool.now c.copy_if_older-turned.new.pool c.args.top c.args.right c.copy_if_older-turned.result c.get-below.result c.args.key (tree_at c.args.pool.now (Some c.args.right)) (tree_at c.args.pool.now c.args.left) c.args.left c.requires.birth c.requires.can c.requires.higher a c.copy_if_older-middle.new.pool c.in-Some.inner c.copy_if_older-middle.result c.get-node.result c.in-Some.is c.get-node.ensures c.copy_if_older-middle.ensures in
    root_in c.copy_if_older-middle.new.pool c.get-node.result.right b.u b.left_is b.su

pub link-requires-2-clause-right_fits : goal.link-requires-2-clause-right_fits
link-requires-2-clause-right_fits c =
    let a = turn c.args.since c.args.birth c.args.pool.now c.copy_if_older-turned.new.pool c.args.top c.args.right c.copy_if_older-turned.result c.get-below.result (tree_at c.args.pool.now (Some c.args.right)) (tree_at c.args.pool.now c.args.left) c.args.left c.requires.can c.get-below.ensures c.copy_if_older-turned.ensures in
    let b = turn2 c.args.since c.args.birth c.args.pool.now c.copy_if_older-turned.new.pool c.args.top c.args.right c.copy_if_older-turned.result c.get-below.result c.args.key (tree_at c.args.pool.now (Some c.args.right)) (tree_at c.args.pool.now c.args.left) c.args.left c.requires.birth c.requires.can c.requires.higher a c.copy_if_older-middle.new.pool c.in-Some.inner c.copy_if_older-middle.result c.get-node.result c.in-Some.is c.get-node.ensures c.copy_if_older-middle.ensures in
    omega (arith, height_in c.copy_if_older-middle.new.pool c.get-below.result.right a.x a.left_is b.sx, c.requires.can.right_fits, ap height a.is, ap height b.is)

pub link-requires-2-clause-left_fits : goal.link-requires-2-clause-left_fits
link-requires-2-clause-left_fits c =
    let a = turn c.args.since c.args.birth c.args.pool.now c.copy_if_older-turned.new.pool c.args.top c.args.right c.copy_if_older-turned.result c.get-below.result (tree_at c.args.pool.now (Some c.args.right)) (tree_at c.args.pool.now c.args.left) c.args.left c.requires.can c.get-below.ensures c.copy_if_older-turned.ensures in
    let b = turn2 c.args.since c.args.birth c.args.pool.now c.copy_if_older-turned.new.pool c.args.top c.args.right c.copy_if_older-turned.result c.get-below.result c.args.key (tree_at c.args.pool.now (Some c.args.right)) (tree_at c.args.pool.now c.args.left) c.args.left c.requires.birth c.requires.can c.requires.higher a c.copy_if_older-middle.new.pool c.in-Some.inner c.copy_if_older-middle.result c.get-node.result c.in-Some.is c.get-node.ensures c.copy_if_older-middle.ensures in
    omega (arith, height_in c.copy_if_older-middle.new.pool c.get-node.result.right b.u b.left_is b.su, c.requires.can.right_fits, ap height a.is, ap height b.is)

pub link-requires-3-clause-right : goal.link-requires-3-clause-right
link-requires-3-clause-right c =
    let a = turn c.args.since c.args.birth c.args.pool.now c.copy_if_older-turned.new.pool c.args.top c.args.right c.copy_if_older-turned.result c.get-below.result (tree_at c.args.pool.now (Some c.args.right)) (tree_at c.args.pool.now c.args.left) c.args.left c.requires.can c.get-below.ensures c.copy_if_older-turned.ensures in
    let b = turn2 c.args.since c.args.birth c.args.pool.now c.copy_if_older-turned.new.pool c.args.top c.args.right c.copy_if_older-turned.result c.get-below.result c.args.key (tree_at c.args.pool.now (Some c.args.right)) (tree_at c.args.pool.now c.args.left) c.args.left c.requires.birth c.requires.can c.requires.higher a c.copy_if_older-middle.new.pool c.in-Some.inner c.copy_if_older-middle.result c.get-node.result c.in-Some.is c.get-node.ensures c.copy_if_older-middle.ensures in
    let f = double_far c.args.since c.args.birth c.args.pool.now c.copy_if_older-turned.new.pool c.args.top c.args.right c.copy_if_older-turned.result c.get-below.result c.args.key (tree_at c.args.pool.now (Some c.args.right)) (tree_at c.args.pool.now c.args.left) c.args.left c.requires.birth c.requires.can c.requires.higher a c.copy_if_older-middle.new.pool c.in-Some.inner c.copy_if_older-middle.result c.get-node.result b c.link-2.new.pool c.link-2.ensures in
    root_in c.link-2.new.pool c.get-node.result.left b.v b.right_is f.0

pub link-requires-3-clause-right_fits : goal.link-requires-3-clause-right_fits
link-requires-3-clause-right_fits c =
    let a = turn c.args.since c.args.birth c.args.pool.now c.copy_if_older-turned.new.pool c.args.top c.args.right c.copy_if_older-turned.result c.get-below.result (tree_at c.args.pool.now (Some c.args.right)) (tree_at c.args.pool.now c.args.left) c.args.left c.requires.can c.get-below.ensures c.copy_if_older-turned.ensures in
    let b = turn2 c.args.since c.args.birth c.args.pool.now c.copy_if_older-turned.new.pool c.args.top c.args.right c.copy_if_older-turned.result c.get-below.result c.args.key (tree_at c.args.pool.now (Some c.args.right)) (tree_at c.args.pool.now c.args.left) c.args.left c.requires.birth c.requires.can c.requires.higher a c.copy_if_older-middle.new.pool c.in-Some.inner c.copy_if_older-middle.result c.get-node.result c.in-Some.is c.get-node.ensures c.copy_if_older-middle.ensures in
    let f = double_far c.args.since c.args.birth c.args.pool.now c.copy_if_older-turned.new.pool c.args.top c.args.right c.copy_if_older-turned.result c.get-below.result c.args.key (tree_at c.args.pool.now (Some c.args.right)) (tree_at c.args.pool.now c.args.left) c.args.left c.requires.birth c.requires.can c.requires.higher a c.copy_if_older-middle.new.pool c.in-Some.inner c.copy_if_older-middle.result c.get-node.result b c.link-2.new.pool c.link-2.ensures in
    omega (arith, height_in c.link-2.new.pool c.get-node.result.left b.v b.right_is f.0, c.requires.can.right_fits, ap height a.is, ap height b.is)

pub link-requires-4-clause-right_fits : goal.link-requires-4-clause-right_fits
link-requires-4-clause-right_fits c =
    let a = turn c.args.since c.args.birth c.args.pool.now c.copy_if_older-turned.new.pool c.args.top c.args.right c.copy_if_older-turned.result c.get-below.result (tree_at c.args.pool.now (Some c.args.right)) (tree_at c.args.pool.now c.args.left) c.args.left c.requires.can c.get-below.ensures c.copy_if_older-turned.ensures in
    let b = turn2 c.args.since c.args.birth c.args.pool.now c.copy_if_older-turned.new.pool c.args.top c.args.right c.copy_if_older-turned.result c.get-below.result c.args.key (tree_at c.args.pool.now (Some c.args.right)) (tree_at c.args.pool.now c.args.left) c.args.left c.requires.birth c.requires.can c.requires.higher a c.copy_if_older-middle.new.pool c.in-Some.inner c.copy_if_older-middle.result c.get-node.result c.in-Some.is c.get-node.ensures c.copy_if_older-middle.ensures in
    let s = double_sides c.args.since c.args.birth c.args.pool.now c.copy_if_older-turned.new.pool c.args.top c.args.right c.copy_if_older-turned.result c.get-below.result c.args.key (tree_at c.args.pool.now (Some c.args.right)) (tree_at c.args.pool.now c.args.left) c.args.left c.requires.birth c.requires.can c.requires.higher a c.copy_if_older-middle.new.pool c.in-Some.inner c.copy_if_older-middle.result c.get-node.result b c.link-2.new.pool c.link-3.new.pool c.link-2.ensures c.link-3.ensures in omega (arith, height_in c.link-3.new.pool (Some c.copy_if_older-turned.result) (fork c.copy_if_older-turned.result c.args.birth b.u c.get-below.result.key a.x) refl s.0, c.requires.can.right_fits, ap height a.is, ap height b.is)

pub link-requires-4-clause-left_fits : goal.link-requires-4-clause-left_fits
link-requires-4-clause-left_fits c =
    let a = turn c.args.since c.args.birth c.args.pool.now c.copy_if_older-turned.new.pool c.args.top c.args.right c.copy_if_older-turned.result c.get-below.result (tree_at c.args.pool.now (Some c.args.right)) (tree_at c.args.pool.now c.args.left) c.args.left c.requires.can c.get-below.ensures c.copy_if_older-turned.ensures in
    let b = turn2 c.args.since c.args.birth c.args.pool.now c.copy_if_older-turned.new.pool c.args.top c.args.right c.copy_if_older-turned.result c.get-below.result c.args.key (tree_at c.args.pool.now (Some c.args.right)) (tree_at c.args.pool.now c.args.left) c.args.left c.requires.birth c.requires.can c.requires.higher a c.copy_if_older-middle.new.pool c.in-Some.inner c.copy_if_older-middle.result c.get-node.result c.in-Some.is c.get-node.ensures c.copy_if_older-middle.ensures in
    let s = double_high c.args.since c.args.birth c.args.pool.now c.copy_if_older-turned.new.pool c.args.top c.args.right c.copy_if_older-turned.result c.get-below.result c.args.key (tree_at c.args.pool.now (Some c.args.right)) (tree_at c.args.pool.now c.args.left) c.args.left c.requires.birth c.requires.can c.requires.higher a c.copy_if_older-middle.new.pool c.in-Some.inner c.copy_if_older-middle.result c.get-node.result b c.link-2.new.pool c.link-3.new.pool c.link-2.ensures c.link-3.ensures in omega (arith, height_in c.link-3.new.pool (Some c.args.top) (fork c.args.top c.args.birth (tree_at c.args.pool.now c.args.left) c.args.key b.v) refl s.stands, c.requires.can.right_fits, ap height a.is, ap height b.is, c.requires.can.left_fits)

pub returns : goal.returns
returns c =
    let a = turn c.args.since c.args.birth c.args.pool.now c.copy_if_older-turned.new.pool c.args.top c.args.right c.copy_if_older-turned.result c.get-below.result (tree_at c.args.pool.now (Some c.args.right)) (tree_at c.args.pool.now c.args.left) c.args.left c.requires.can c.get-below.ensures c.copy_if_older-turned.ensures in
    let b = turn2 c.args.since c.args.birth c.args.pool.now c.copy_if_older-turned.new.pool c.args.top c.args.right c.copy_if_older-turned.result c.get-below.result c.args.key (tree_at c.args.pool.now (Some c.args.right)) (tree_at c.args.pool.now c.args.left) c.args.left c.requires.birth c.requires.can c.requires.higher a c.copy_if_older-middle.new.pool c.in-Some.inner c.copy_if_older-middle.result c.get-node.result c.in-Some.is c.get-node.ensures c.copy_if_older-middle.ensures in
    let lower : height a.x < height a.y = omega (arith, c.if-height_of.false, c.height_of.ensures, c.height_of-2.ensures, height_in c.copy_if_older-turned.new.pool c.get-below.result.right a.x a.left_is a.sx, height_in c.copy_if_older-turned.new.pool c.get-below.result.left a.y a.right_is a.sy) in settled_at (double c.args.since c.args.birth c.args.pool.now c.copy_if_older-turned.new.pool c.args.top c.args.right c.copy_if_older-turned.result c.get-below.result c.args.key (tree_at c.args.pool.now (Some c.args.right)) (tree_at c.args.pool.now c.args.left) c.args.left c.requires.birth c.requires.can c.requires.higher a c.copy_if_older-middle.new.pool c.in-Some.inner c.copy_if_older-middle.result c.get-node.result b c.link-2.new.pool c.link-3.new.pool c.link-4.new.pool c.link-2.ensures c.link-3.ensures lower c.link-4.ensures)

pub copy_if_older-turned-requires-clause-unlisted : goal.copy_if_older-turned-requires-clause-unlisted
copy_if_older-turned-requires-clause-unlisted c = root_plain c.args.pool.now (Some c.args.right) c.args.right c.get-below.result (tree_at c.args.pool.now (Some c.args.right)) c.requires.can.right_root c.requires.can.right_stands refl c.get-below.ensures (λ x. omega (arith, c.requires.can.apart x))

pub copy_if_older-middle-requires-clause-unlisted : goal.copy_if_older-middle-requires-clause-unlisted
copy_if_older-middle-requires-clause-unlisted c =
    let a = turn c.args.since c.args.birth c.args.pool.now c.copy_if_older-turned.new.pool c.args.top c.args.right c.copy_if_older-turned.result c.get-below.result (tree_at c.args.pool.now (Some c.args.right)) (tree_at c.args.pool.now c.args.left) c.args.left c.requires.can c.get-below.ensures c.copy_if_older-turned.ensures in
    root_plain c.copy_if_older-turned.new.pool c.get-below.result.left c.in-Some.inner c.get-node.result a.y a.right_is a.sy c.in-Some.is c.get-node.ensures (λ x. omega (arith, a.apart x))

pub link-requires-3-clause-left_fits : goal.link-requires-3-clause-left_fits
link-requires-3-clause-left_fits c =
    let a = turn c.args.since c.args.birth c.args.pool.now c.copy_if_older-turned.new.pool c.args.top c.args.right c.copy_if_older-turned.result c.get-below.result (tree_at c.args.pool.now (Some c.args.right)) (tree_at c.args.pool.now c.args.left) c.args.left c.requires.can c.get-below.ensures c.copy_if_older-turned.ensures in
    let b = turn2 c.args.since c.args.birth c.args.pool.now c.copy_if_older-turned.new.pool c.args.top c.args.right c.copy_if_older-turned.result c.get-below.result c.args.key (tree_at c.args.pool.now (Some c.args.right)) (tree_at c.args.pool.now c.args.left) c.args.left c.requires.birth c.requires.can c.requires.higher a c.copy_if_older-middle.new.pool c.in-Some.inner c.copy_if_older-middle.result c.get-node.result c.in-Some.is c.get-node.ensures c.copy_if_older-middle.ensures in
    let f = double_far c.args.since c.args.birth c.args.pool.now c.copy_if_older-turned.new.pool c.args.top c.args.right c.copy_if_older-turned.result c.get-below.result c.args.key (tree_at c.args.pool.now (Some c.args.right)) (tree_at c.args.pool.now c.args.left) c.args.left c.requires.birth c.requires.can c.requires.higher a c.copy_if_older-middle.new.pool c.in-Some.inner c.copy_if_older-middle.result c.get-node.result b c.link-2.new.pool c.link-2.ensures in
    omega (arith, height_in c.link-2.new.pool c.args.left (tree_at c.args.pool.now c.args.left) a.far_is f.1, c.requires.can.left_fits)

pub copy_if_older-turned-requires-clause-room : goal.copy_if_older-turned-requires-clause-room
copy_if_older-turned-requires-clause-room c = λ old.
    let r = older_root c.args.since c.args.pool.now (Some c.args.right) c.args.right c.get-below.result (tree_at c.args.pool.now (Some c.args.right)) c.requires.can.right_root c.requires.can.right_stands refl c.get-below.ensures old in
    omega (arith, c.requires.can.has_room, r.0, copies_some c.args.since 2 r.1)

pub copy_if_older-middle-requires-clause-room : goal.copy_if_older-middle-requires-clause-room
copy_if_older-middle-requires-clause-room c = λ old.
    let a = turn c.args.since c.args.birth c.args.pool.now c.copy_if_older-turned.new.pool c.args.top c.args.right c.copy_if_older-turned.result c.get-below.result (tree_at c.args.pool.now (Some c.args.right)) (tree_at c.args.pool.now c.args.left) c.args.left c.requires.can c.get-below.ensures c.copy_if_older-turned.ensures in
    let r = older_root c.args.since c.copy_if_older-turned.new.pool c.get-below.result.left c.in-Some.inner c.get-node.result a.y a.right_is a.sy c.in-Some.is c.get-node.ensures old in
    omega (arith, a.has_room, r.0, copies_some c.args.since 1 r.1)

pub link-requires-clause-unlisted : goal.link-requires-clause-unlisted
link-requires-clause-unlisted c =
    let a = turn c.args.since c.args.birth c.args.pool.now c.copy_if_older-turned.new.pool c.args.top c.args.right c.copy_if_older-turned.result c.get-below.result (tree_at c.args.pool.now (Some c.args.right)) (tree_at c.args.pool.now c.args.left) c.args.left c.requires.can c.get-below.ensures c.copy_if_older-turned.ensures in
    (plain_found c.copy_if_older-turned.new.pool c.args.top (omega (arith, a.apart c.args.top, one_same c.args.top))).1

pub link-requires-then-height_of-clause-unlisted : goal.link-requires-then-height_of-clause-unlisted
link-requires-then-height_of-clause-unlisted c =
    let a = turn c.args.since c.args.birth c.args.pool.now c.copy_if_older-turned.new.pool c.args.top c.args.right c.copy_if_older-turned.result c.get-below.result (tree_at c.args.pool.now (Some c.args.right)) (tree_at c.args.pool.now c.args.left) c.args.left c.requires.can c.get-below.ensures c.copy_if_older-turned.ensures in
    ap (λ ms. get_or ms c.copy_if_older-turned.result plain) c.link.ensures.marks ∙ (plain_found c.copy_if_older-turned.new.pool c.copy_if_older-turned.result (omega (arith, a.apart c.copy_if_older-turned.result, one_same c.copy_if_older-turned.result))).1

pub link-requires-2-clause-unlisted : goal.link-requires-2-clause-unlisted
link-requires-2-clause-unlisted c =
    let a = turn c.args.since c.args.birth c.args.pool.now c.copy_if_older-turned.new.pool c.args.top c.args.right c.copy_if_older-turned.result c.get-below.result (tree_at c.args.pool.now (Some c.args.right)) (tree_at c.args.pool.now c.args.left) c.args.left c.requires.can c.get-below.ensures c.copy_if_older-turned.ensures in
    let b = turn2 c.args.since c.args.birth c.args.pool.now c.copy_if_older-turned.new.pool c.args.top c.args.right c.copy_if_older-turned.result c.get-below.result c.args.key (tree_at c.args.pool.now (Some c.args.right)) (tree_at c.args.pool.now c.args.left) c.args.left c.requires.birth c.requires.can c.requires.higher a c.copy_if_older-middle.new.pool c.in-Some.inner c.copy_if_older-middle.result c.get-node.result c.in-Some.is c.get-node.ensures c.copy_if_older-middle.ensures in
    (plain_found c.copy_if_older-middle.new.pool c.copy_if_older-turned.result (omega (arith, b.apart c.copy_if_older-turned.result, one_same c.copy_if_older-turned.result))).1

pub link-requires-3-clause-unlisted : goal.link-requires-3-clause-unlisted
link-requires-3-clause-unlisted c =
    let a = turn c.args.since c.args.birth c.args.pool.now c.copy_if_older-turned.new.pool c.args.top c.args.right c.copy_if_older-turned.result c.get-below.result (tree_at c.args.pool.now (Some c.args.right)) (tree_at c.args.pool.now c.args.left) c.args.left c.requires.can c.get-below.ensures c.copy_if_older-turned.ensures in
    let b = turn2 c.args.since c.args.birth c.args.pool.now c.copy_if_older-turned.new.pool c.args.top c.args.right c.copy_if_older-turned.result c.get-below.result c.args.key (tree_at c.args.pool.now (Some c.args.right)) (tree_at c.args.pool.now c.args.left) c.args.left c.requires.birth c.requires.can c.requires.higher a c.copy_if_older-middle.new.pool c.in-Some.inner c.copy_if_older-middle.result c.get-node.result c.in-Some.is c.get-node.ensures c.copy_if_older-middle.ensures in
    ap (λ ms. get_or ms c.args.top plain) c.link-2.ensures.marks ∙ (plain_found c.copy_if_older-middle.new.pool c.args.top (omega (arith, b.apart c.args.top, one_same c.args.top))).1

pub link-requires-4-clause-unlisted : goal.link-requires-4-clause-unlisted
link-requires-4-clause-unlisted c =
    let a = turn c.args.since c.args.birth c.args.pool.now c.copy_if_older-turned.new.pool c.args.top c.args.right c.copy_if_older-turned.result c.get-below.result (tree_at c.args.pool.now (Some c.args.right)) (tree_at c.args.pool.now c.args.left) c.args.left c.requires.can c.get-below.ensures c.copy_if_older-turned.ensures in
    let b = turn2 c.args.since c.args.birth c.args.pool.now c.copy_if_older-turned.new.pool c.args.top c.args.right c.copy_if_older-turned.result c.get-below.result c.args.key (tree_at c.args.pool.now (Some c.args.right)) (tree_at c.args.pool.now c.args.left) c.args.left c.requires.birth c.requires.can c.requires.higher a c.copy_if_older-middle.new.pool c.in-Some.inner c.copy_if_older-middle.result c.get-node.result c.in-Some.is c.get-node.ensures c.copy_if_older-middle.ensures in
    ap (λ ms. get_or ms c.copy_if_older-middle.result plain) c.link-3.ensures.marks ∙ ap (λ ms. get_or ms c.copy_if_older-middle.result plain) c.link-2.ensures.marks ∙ (plain_found c.copy_if_older-middle.new.pool c.copy_if_older-middle.result (omega (arith, b.apart c.copy_if_older-middle.result, one_same c.copy_if_older-middle.result))).1
