use Rattle.std.proofs.Common.{◌<◌, Some, sym, subst, ◌∙◌, arith}
use Rattle.gs_tree.specs.Tree.{tree_at, height_at}
use Rattle.gs_tree.specs.Merging.{Merges}
use Rattle.gs_tree.proofs.Merging.{some_keys}
use Rattle.gs_tree.proofs.Rotations.{root_in}
use Rattle.gs_tree.proofs.UnionLemmas.{merges_built, left_falls, left_can, right_falls, right_can, same_done, top_used, union_plain, top_room, join_can, kept_can, join_done}
use Rattle.gs_tree.proofs.unions.+union_at.Goals as goal

pub returns-in_default : goal.returns-in_default
returns-in_default g t c =
    merges_built (g.O.KeyOrder.compare c.args.order.now) (g.met.O.KeyOrder.total c.args.order.now) c.args.since c.args.birth c.args.pool.now c.build-made.new.pool c.args.root c.build-made.result c.args.run.now (tree_at c.build-made.new.pool c.build-made.result) c.requires.birth c.in_default.is c.requires.can.run_rising (some_keys _ (sym c.is_empty.ensures ∙ c.if-is_empty.false)) c.build-made.ensures

pub union_at-left-requires : goal.union_at-left-requires
union_at-left-requires g t c κs within =
    let falls : height_at c.args.pool.now c.get-node.result.left < t = omega (arith, c.decreases, left_falls (g.O.KeyOrder.compare c.args.order.now) (g.met.O.KeyOrder.total c.args.order.now) c.args.since c.args.birth c.args.pool.now c.args.root (tree_at c.args.pool.now c.args.root) c.args.run.now c.requires.can c.in-Some.id c.get-node.result c.in-Some.is c.get-node.ensures c.cut_at.result.0.now c.cut_at.result.1.now c.cut_at.ensures) in
    (falls, (within, (left_can (g.O.KeyOrder.compare c.args.order.now) (g.met.O.KeyOrder.total c.args.order.now) c.args.since c.args.birth c.args.pool.now c.args.root (tree_at c.args.pool.now c.args.root) c.args.run.now c.requires.can c.in-Some.id c.get-node.result c.in-Some.is c.get-node.ensures c.cut_at.result.0.now c.cut_at.result.1.now c.cut_at.ensures, c.requires.birth)))

pub union_at-right-requires : goal.union_at-right-requires
union_at-right-requires g t c κs within =
    let falls : height_at c.union_at-left.new.pool c.get-node.result.right < t = omega (arith, c.decreases, right_falls (g.O.KeyOrder.compare c.args.order.now) (g.met.O.KeyOrder.total c.args.order.now) c.args.since c.args.birth c.args.pool.now c.args.root (tree_at c.args.pool.now c.args.root) c.args.run.now c.requires.can c.in-Some.id c.get-node.result c.in-Some.is c.get-node.ensures c.cut_at.result.0.now c.cut_at.result.1.now c.cut_at.ensures c.union_at-left.new.pool c.union_at-left.result.root c.union_at-left.result.added c.union_at-left.ensures) in
    (falls, (within, (right_can (g.O.KeyOrder.compare c.args.order.now) (g.met.O.KeyOrder.total c.args.order.now) c.args.since c.args.birth c.args.pool.now c.args.root (tree_at c.args.pool.now c.args.root) c.args.run.now c.requires.can c.in-Some.id c.get-node.result c.in-Some.is c.get-node.ensures c.cut_at.result.0.now c.cut_at.result.1.now c.cut_at.ensures c.union_at-left.new.pool c.union_at-left.result.root c.union_at-left.result.added c.union_at-left.ensures, c.requires.birth)))

pub returns-then-added-eq0 : goal.returns-then-added-eq0
returns-then-added-eq0 g t c =
    subst (λ r. Merges (g.O.KeyOrder.compare c.args.order.now) c.args.since c.args.birth c.args.pool.now c.union_at-right.new.pool r 0 (tree_at c.args.pool.now c.args.root) c.args.run.now (tree_at c.union_at-right.new.pool r)) c.in-Some.is
    (same_done (g.O.KeyOrder.compare c.args.order.now) (g.met.O.KeyOrder.total c.args.order.now) c.args.since c.args.birth c.args.pool.now c.args.root (tree_at c.args.pool.now c.args.root) c.args.run.now c.requires.can c.in-Some.id c.get-node.result c.in-Some.is c.get-node.ensures c.cut_at.result.0.now c.cut_at.result.1.now c.cut_at.ensures c.union_at-left.new.pool c.union_at-left.result.root c.union_at-left.result.added c.union_at-left.ensures c.union_at-right.new.pool c.union_at-right.result.root c.union_at-right.result.added c.union_at-right.ensures (omega (arith, c.if-added-eq0.true)))

pub copy_if_older-top-requires-clause-used : goal.copy_if_older-top-requires-clause-used
copy_if_older-top-requires-clause-used g t c = top_used (g.O.KeyOrder.compare c.args.order.now) (g.met.O.KeyOrder.total c.args.order.now) c.args.since c.args.birth c.args.pool.now c.args.root (tree_at c.args.pool.now c.args.root) c.args.run.now c.requires.can c.in-Some.id c.get-node.result c.in-Some.is c.get-node.ensures c.cut_at.result.0.now c.cut_at.result.1.now c.cut_at.ensures c.union_at-left.new.pool c.union_at-left.result.root c.union_at-left.result.added c.union_at-left.ensures c.union_at-right.new.pool c.union_at-right.result.root c.union_at-right.result.added c.union_at-right.ensures

pub copy_if_older-top-requires-clause-room : goal.copy_if_older-top-requires-clause-room
copy_if_older-top-requires-clause-room g t c = top_room (g.O.KeyOrder.compare c.args.order.now) (g.met.O.KeyOrder.total c.args.order.now) c.args.since c.args.birth c.args.pool.now c.args.root (tree_at c.args.pool.now c.args.root) c.args.run.now c.requires.can c.in-Some.id c.get-node.result c.in-Some.is c.get-node.ensures c.cut_at.result.0.now c.cut_at.result.1.now c.cut_at.ensures c.union_at-left.new.pool c.union_at-left.result.root c.union_at-left.result.added c.union_at-left.ensures c.union_at-right.new.pool c.union_at-right.result.root c.union_at-right.result.added c.union_at-right.ensures (omega (arith, c.if-added-eq0.false))

pub rejoin-requires-clause-can : goal.rejoin-requires-clause-can
rejoin-requires-clause-can g t c = join_can (g.O.KeyOrder.compare c.args.order.now) (g.met.O.KeyOrder.total c.args.order.now) c.args.since c.args.birth c.args.pool.now c.args.root (tree_at c.args.pool.now c.args.root) c.args.run.now c.requires.can c.in-Some.id c.get-node.result c.in-Some.is c.get-node.ensures c.cut_at.result.0.now c.cut_at.result.1.now c.cut_at.ensures c.union_at-left.new.pool c.union_at-left.result.root c.union_at-left.result.added c.union_at-left.ensures c.union_at-right.new.pool c.union_at-right.result.root c.union_at-right.result.added c.union_at-right.ensures (omega (arith, c.if-added-eq0.false)) c.copy_if_older-top.new.pool c.copy_if_older-top.result c.copy_if_older-top.ensures

pub kept_height-kept-requires-clause-left : goal.kept_height-kept-requires-clause-left
kept_height-kept-requires-clause-left g t c = let can = join_can (g.O.KeyOrder.compare c.args.order.now) (g.met.O.KeyOrder.total c.args.order.now) c.args.since c.args.birth c.args.pool.now c.args.root (tree_at c.args.pool.now c.args.root) c.args.run.now c.requires.can c.in-Some.id c.get-node.result c.in-Some.is c.get-node.ensures c.cut_at.result.0.now c.cut_at.result.1.now c.cut_at.ensures c.union_at-left.new.pool c.union_at-left.result.root c.union_at-left.result.added c.union_at-left.ensures c.union_at-right.new.pool c.union_at-right.result.root c.union_at-right.result.added c.union_at-right.ensures (omega (arith, c.if-added-eq0.false)) c.copy_if_older-top.new.pool c.copy_if_older-top.result c.copy_if_older-top.ensures in root_in c.copy_if_older-top.new.pool c.union_at-left.result.root (tree_at c.copy_if_older-top.new.pool c.union_at-left.result.root) can.can.left_root can.can.left_stands

pub kept_height-kept-requires-clause-right : goal.kept_height-kept-requires-clause-right
kept_height-kept-requires-clause-right g t c = let can = join_can (g.O.KeyOrder.compare c.args.order.now) (g.met.O.KeyOrder.total c.args.order.now) c.args.since c.args.birth c.args.pool.now c.args.root (tree_at c.args.pool.now c.args.root) c.args.run.now c.requires.can c.in-Some.id c.get-node.result c.in-Some.is c.get-node.ensures c.cut_at.result.0.now c.cut_at.result.1.now c.cut_at.ensures c.union_at-left.new.pool c.union_at-left.result.root c.union_at-left.result.added c.union_at-left.ensures c.union_at-right.new.pool c.union_at-right.result.root c.union_at-right.result.added c.union_at-right.ensures (omega (arith, c.if-added-eq0.false)) c.copy_if_older-top.new.pool c.copy_if_older-top.result c.copy_if_older-top.ensures in root_in c.copy_if_older-top.new.pool c.union_at-right.result.root (tree_at c.copy_if_older-top.new.pool c.union_at-right.result.root) can.can.right_root can.can.right_stands

pub rejoin-requires-clause-kept : goal.rejoin-requires-clause-kept
rejoin-requires-clause-kept g t c = kept_can (g.O.KeyOrder.compare c.args.order.now) (g.met.O.KeyOrder.total c.args.order.now) c.args.since c.args.birth c.args.pool.now c.args.root (tree_at c.args.pool.now c.args.root) c.args.run.now c.requires.can c.in-Some.id c.get-node.result c.in-Some.is c.get-node.ensures c.cut_at.result.0.now c.cut_at.result.1.now c.cut_at.ensures c.union_at-left.new.pool c.union_at-left.result.root c.union_at-left.result.added c.union_at-left.ensures c.union_at-right.new.pool c.union_at-right.result.root c.union_at-right.result.added c.union_at-right.ensures (omega (arith, c.if-added-eq0.false)) c.copy_if_older-top.new.pool c.copy_if_older-top.result c.copy_if_older-top.ensures c.height_of-left_before.result c.height_of-right_before.result c.kept_height-kept.result c.height_of-left_before.ensures c.height_of-right_before.ensures c.kept_height-kept.ensures.height c.kept_height-kept.ensures.left c.kept_height-kept.ensures.right

pub returns : goal.returns
returns g t c =
    subst (λ n. Merges (g.O.KeyOrder.compare c.args.order.now) c.args.since c.args.birth c.args.pool.now c.rejoin.new.pool (Some c.rejoin.result) n (tree_at c.args.pool.now c.args.root) c.args.run.now (tree_at c.rejoin.new.pool (Some c.rejoin.result))) (omega (arith, c.lacked-added.ensures)) (join_done (g.O.KeyOrder.compare c.args.order.now) (g.met.O.KeyOrder.total c.args.order.now) c.args.since c.args.birth c.args.pool.now c.args.root (tree_at c.args.pool.now c.args.root) c.args.run.now c.requires.can c.in-Some.id c.get-node.result c.in-Some.is c.get-node.ensures c.cut_at.result.0.now c.cut_at.result.1.now c.cut_at.ensures c.union_at-left.new.pool c.union_at-left.result.root c.union_at-left.result.added c.union_at-left.ensures c.union_at-right.new.pool c.union_at-right.result.root c.union_at-right.result.added c.union_at-right.ensures (omega (arith, c.if-added-eq0.false)) c.copy_if_older-top.new.pool c.copy_if_older-top.result c.copy_if_older-top.ensures c.rejoin.new.pool c.rejoin.result (tree_at c.rejoin.new.pool (Some c.rejoin.result)) c.rejoin.ensures)

pub copy_if_older-top-requires-clause-unlisted : goal.copy_if_older-top-requires-clause-unlisted
copy_if_older-top-requires-clause-unlisted g t c = union_plain (g.O.KeyOrder.compare c.args.order.now) (g.met.O.KeyOrder.total c.args.order.now) c.args.since c.args.birth c.args.pool.now c.args.root (tree_at c.args.pool.now c.args.root) c.args.run.now c.requires.can c.in-Some.id c.get-node.result c.in-Some.is c.get-node.ensures c.cut_at.result.0.now c.cut_at.result.1.now c.cut_at.ensures c.union_at-left.new.pool c.union_at-left.result.root c.union_at-left.result.added c.union_at-left.ensures c.union_at-right.new.pool c.union_at-right.result.root c.union_at-right.result.added c.union_at-right.ensures
