use Rattle.std.proofs.Common.{◌<◌, Some, sym, ap, subst, ◌∙◌, arith}
use Rattle.gs_tree.specs.Tree.{tree_at, height_at, keys}
use Rattle.gs_tree.specs.Shrinking.{Shrinks, CanShrink}
use Rattle.gs_tree.proofs.Removal.{no_right, left_can, left_falls, left_used, left_plain, here_plain, left_room, left_settle, left_near, left_done, right_can, right_falls, right_used, right_plain, right_room, right_settle, right_near, right_done, less_can, greater_can, less_keys, greater_keys, equal_keys, last_keys}
use Rattle.gs_tree.proofs.removals.+remove_at.Goals as goal

pub remove_at-left-requires : goal.remove_at-left-requires
remove_at-left-requires g t c κs within =
    let falls : height_at c.args.pool.now c.get-node.result.left < t = omega (arith, c.decreases, left_falls c.args.since c.args.birth c.args.pool.now c.args.root (tree_at c.args.pool.now c.args.root) c.requires.can c.in-Some.id c.get-node.result c.in-Some.is c.get-node.ensures) in
    let k = less_can c.args.since c.args.birth c.args.pool.now c.args.root (tree_at c.args.pool.now c.args.root) c.requires.can c.in-Some.id c.get-node.result c.in-Some.is c.get-node.ensures (g.O.KeyOrder.compare c.args.order.now) (g.met.O.KeyOrder.total c.args.order.now) c.args.key c.requires.rising c.requires.has (sym c.compare.ensures ∙ c.in-Less.is) in
    (falls, (within, (left_can c.args.since c.args.birth c.args.pool.now c.args.root (tree_at c.args.pool.now c.args.root) c.requires.can c.in-Some.id c.get-node.result c.in-Some.is c.get-node.ensures, (k.0, (k.1, c.requires.birth)))))

pub remove_at-right-requires : goal.remove_at-right-requires
remove_at-right-requires g t c κs within =
    let falls : height_at c.args.pool.now c.get-node.result.right < t = omega (arith, c.decreases, right_falls c.args.since c.args.birth c.args.pool.now c.args.root (tree_at c.args.pool.now c.args.root) c.requires.can c.in-Some.id c.get-node.result c.in-Some.is c.get-node.ensures) in
    let k = greater_can c.args.since c.args.birth c.args.pool.now c.args.root (tree_at c.args.pool.now c.args.root) c.requires.can c.in-Some.id c.get-node.result c.in-Some.is c.get-node.ensures (g.O.KeyOrder.compare c.args.order.now) (g.met.O.KeyOrder.total c.args.order.now) c.args.key c.requires.rising c.requires.has (sym c.compare.ensures ∙ c.in-Greater.is) in
    (falls, (within, (right_can c.args.since c.args.birth c.args.pool.now c.args.root (tree_at c.args.pool.now c.args.root) c.requires.can c.in-Some.id c.get-node.result c.in-Some.is c.get-node.ensures, (k.0, (k.1, c.requires.birth)))))

pub copy_if_older-top-requires-clause-used : goal.copy_if_older-top-requires-clause-used
copy_if_older-top-requires-clause-used g t c = left_used c.args.since c.args.birth c.args.pool.now c.args.root (tree_at c.args.pool.now c.args.root) c.requires.can c.in-Some.id c.get-node.result c.in-Some.is c.get-node.ensures c.remove_at-left.new.pool c.remove_at-left.result c.remove_at-left.ensures.shrinks

pub copy_if_older-top-requires-clause-room : goal.copy_if_older-top-requires-clause-room
copy_if_older-top-requires-clause-room g t c = left_room c.args.since c.args.birth c.args.pool.now c.args.root (tree_at c.args.pool.now c.args.root) c.requires.can c.in-Some.id c.get-node.result c.in-Some.is c.get-node.ensures c.remove_at-left.new.pool c.remove_at-left.result c.remove_at-left.ensures.shrinks

pub settle-requires-clause-can : goal.settle-requires-clause-can
settle-requires-clause-can g t c = left_settle c.args.since c.args.birth c.args.pool.now c.args.root (tree_at c.args.pool.now c.args.root) c.requires.can c.in-Some.id c.get-node.result c.in-Some.is c.get-node.ensures c.remove_at-left.new.pool c.remove_at-left.result c.remove_at-left.ensures.shrinks c.copy_if_older-top.new.pool c.copy_if_older-top.result c.copy_if_older-top.ensures

pub settle-requires-clause-near : goal.settle-requires-clause-near
settle-requires-clause-near g t c = left_near c.args.since c.args.birth c.args.pool.now c.args.root (tree_at c.args.pool.now c.args.root) c.requires.can c.in-Some.id c.get-node.result c.in-Some.is c.get-node.ensures c.remove_at-left.new.pool c.remove_at-left.result c.remove_at-left.ensures.shrinks c.copy_if_older-top.new.pool c.copy_if_older-top.result c.copy_if_older-top.ensures

pub returns-in-Less-clause-shrinks : goal.returns-in-Less-clause-shrinks
returns-in-Less-clause-shrinks g t c = (left_done c.args.since c.args.birth c.args.pool.now c.args.root (tree_at c.args.pool.now c.args.root) c.requires.can c.in-Some.id c.get-node.result c.in-Some.is c.get-node.ensures c.remove_at-left.new.pool c.remove_at-left.result c.remove_at-left.ensures.shrinks c.copy_if_older-top.new.pool c.copy_if_older-top.result c.copy_if_older-top.ensures c.settle.new.pool c.settle.result c.get-node.result.key (tree_at c.settle.new.pool (Some c.settle.result)) c.settle.ensures).0

pub returns-in-Less-clause-keys : goal.returns-in-Less-clause-keys
returns-in-Less-clause-keys g t c = less_keys c.args.since c.args.birth c.args.pool.now c.args.root (tree_at c.args.pool.now c.args.root) c.requires.can c.in-Some.id c.get-node.result c.in-Some.is c.get-node.ensures (g.O.KeyOrder.compare c.args.order.now) (g.met.O.KeyOrder.total c.args.order.now) c.args.key c.requires.rising c.requires.has _ _ (sym c.compare.ensures ∙ c.in-Less.is) c.remove_at-left.ensures.keys (left_done c.args.since c.args.birth c.args.pool.now c.args.root (tree_at c.args.pool.now c.args.root) c.requires.can c.in-Some.id c.get-node.result c.in-Some.is c.get-node.ensures c.remove_at-left.new.pool c.remove_at-left.result c.remove_at-left.ensures.shrinks c.copy_if_older-top.new.pool c.copy_if_older-top.result c.copy_if_older-top.ensures c.settle.new.pool c.settle.result c.get-node.result.key (tree_at c.settle.new.pool (Some c.settle.result)) c.settle.ensures).1

pub copy_if_older-top-requires-in-Greater-clause-used : goal.copy_if_older-top-requires-in-Greater-clause-used
copy_if_older-top-requires-in-Greater-clause-used g t c = right_used c.args.since c.args.birth c.args.pool.now c.args.root (tree_at c.args.pool.now c.args.root) c.requires.can c.in-Some.id c.get-node.result c.in-Some.is c.get-node.ensures c.remove_at-right.new.pool c.remove_at-right.result c.remove_at-right.ensures.shrinks

pub copy_if_older-top-requires-in-Greater-clause-room : goal.copy_if_older-top-requires-in-Greater-clause-room
copy_if_older-top-requires-in-Greater-clause-room g t c = right_room c.args.since c.args.birth c.args.pool.now c.args.root (tree_at c.args.pool.now c.args.root) c.requires.can c.in-Some.id c.get-node.result c.in-Some.is c.get-node.ensures c.remove_at-right.new.pool c.remove_at-right.result c.remove_at-right.ensures.shrinks

pub settle-requires-in-Greater-clause-can : goal.settle-requires-in-Greater-clause-can
settle-requires-in-Greater-clause-can g t c = right_settle c.args.since c.args.birth c.args.pool.now c.args.root (tree_at c.args.pool.now c.args.root) c.requires.can c.in-Some.id c.get-node.result c.in-Some.is c.get-node.ensures c.remove_at-right.new.pool c.remove_at-right.result c.remove_at-right.ensures.shrinks c.copy_if_older-top-in-Greater.new.pool c.copy_if_older-top-in-Greater.result c.copy_if_older-top-in-Greater.ensures

pub settle-requires-in-Greater-clause-near : goal.settle-requires-in-Greater-clause-near
settle-requires-in-Greater-clause-near g t c = right_near c.args.since c.args.birth c.args.pool.now c.args.root (tree_at c.args.pool.now c.args.root) c.requires.can c.in-Some.id c.get-node.result c.in-Some.is c.get-node.ensures c.remove_at-right.new.pool c.remove_at-right.result c.remove_at-right.ensures.shrinks c.copy_if_older-top-in-Greater.new.pool c.copy_if_older-top-in-Greater.result c.copy_if_older-top-in-Greater.ensures

pub returns-in-Greater-clause-shrinks : goal.returns-in-Greater-clause-shrinks
returns-in-Greater-clause-shrinks g t c = (right_done c.args.since c.args.birth c.args.pool.now c.args.root (tree_at c.args.pool.now c.args.root) c.requires.can c.in-Some.id c.get-node.result c.in-Some.is c.get-node.ensures c.remove_at-right.new.pool c.remove_at-right.result c.remove_at-right.ensures.shrinks c.copy_if_older-top-in-Greater.new.pool c.copy_if_older-top-in-Greater.result c.copy_if_older-top-in-Greater.ensures c.settle-in-Greater.new.pool c.settle-in-Greater.result c.get-node.result.key (tree_at c.settle-in-Greater.new.pool (Some c.settle-in-Greater.result)) c.settle-in-Greater.ensures).0

pub returns-in-Greater-clause-keys : goal.returns-in-Greater-clause-keys
returns-in-Greater-clause-keys g t c = greater_keys c.args.since c.args.birth c.args.pool.now c.args.root (tree_at c.args.pool.now c.args.root) c.requires.can c.in-Some.id c.get-node.result c.in-Some.is c.get-node.ensures (g.O.KeyOrder.compare c.args.order.now) (g.met.O.KeyOrder.total c.args.order.now) c.args.key c.requires.rising c.requires.has _ _ (sym c.compare.ensures ∙ c.in-Greater.is) c.remove_at-right.ensures.keys (right_done c.args.since c.args.birth c.args.pool.now c.args.root (tree_at c.args.pool.now c.args.root) c.requires.can c.in-Some.id c.get-node.result c.in-Some.is c.get-node.ensures c.remove_at-right.new.pool c.remove_at-right.result c.remove_at-right.ensures.shrinks c.copy_if_older-top-in-Greater.new.pool c.copy_if_older-top-in-Greater.result c.copy_if_older-top-in-Greater.ensures c.settle-in-Greater.new.pool c.settle-in-Greater.result c.get-node.result.key (tree_at c.settle-in-Greater.new.pool (Some c.settle-in-Greater.result)) c.settle-in-Greater.ensures).1

pub returns-in_default-right-clause-shrinks : goal.returns-in_default-right-clause-shrinks
returns-in_default-right-clause-shrinks g t c = (no_right c.args.since c.args.birth c.args.pool.now c.args.root (tree_at c.args.pool.now c.args.root) c.requires.can c.in-Some.id c.get-node.result c.in-Some.is c.get-node.ensures c.discard.new.pool c.discard.ensures c.in_default-right.is).0

pub returns-in_default-right-clause-keys : goal.returns-in_default-right-clause-keys
returns-in_default-right-clause-keys g t c = last_keys c.args.since c.args.birth c.args.pool.now c.args.root (tree_at c.args.pool.now c.args.root) c.requires.can c.in-Some.id c.get-node.result c.in-Some.is c.get-node.ensures (g.O.KeyOrder.compare c.args.order.now) (g.met.O.KeyOrder.total c.args.order.now) c.args.key c.requires.rising c.requires.has c.discard.new.pool c.discard.ensures c.in_default-right.is (sym c.compare.ensures ∙ c.in-Equal.is)

pub take_least-least-requires-clause-can : goal.take_least-least-requires-clause-can
take_least-least-requires-clause-can g t c = subst (λ r. CanShrink c.args.since c.args.pool.now r (tree_at c.args.pool.now r)) c.in-Some-right.is (right_can c.args.since c.args.birth c.args.pool.now c.args.root (tree_at c.args.pool.now c.args.root) c.requires.can c.in-Some.id c.get-node.result c.in-Some.is c.get-node.ensures)

pub copy_if_older-top-requires-in-Equal-clause-used : goal.copy_if_older-top-requires-in-Equal-clause-used
copy_if_older-top-requires-in-Equal-clause-used g t c = right_used c.args.since c.args.birth c.args.pool.now c.args.root (tree_at c.args.pool.now c.args.root) c.requires.can c.in-Some.id c.get-node.result c.in-Some.is c.get-node.ensures c.take_least-least.new.pool c.take_least-least.result.rest (subst (λ o. Shrinks c.args.since c.args.birth c.args.pool.now c.take_least-least.new.pool c.take_least-least.result.rest (tree_at c.args.pool.now o) (tree_at c.take_least-least.new.pool c.take_least-least.result.rest)) (sym c.in-Some-right.is) c.take_least-least.ensures.shrinks)

pub copy_if_older-top-requires-in-Equal-clause-room : goal.copy_if_older-top-requires-in-Equal-clause-room
copy_if_older-top-requires-in-Equal-clause-room g t c = right_room c.args.since c.args.birth c.args.pool.now c.args.root (tree_at c.args.pool.now c.args.root) c.requires.can c.in-Some.id c.get-node.result c.in-Some.is c.get-node.ensures c.take_least-least.new.pool c.take_least-least.result.rest (subst (λ o. Shrinks c.args.since c.args.birth c.args.pool.now c.take_least-least.new.pool c.take_least-least.result.rest (tree_at c.args.pool.now o) (tree_at c.take_least-least.new.pool c.take_least-least.result.rest)) (sym c.in-Some-right.is) c.take_least-least.ensures.shrinks)

pub settle-requires-in-Equal-clause-can : goal.settle-requires-in-Equal-clause-can
settle-requires-in-Equal-clause-can g t c = right_settle c.args.since c.args.birth c.args.pool.now c.args.root (tree_at c.args.pool.now c.args.root) c.requires.can c.in-Some.id c.get-node.result c.in-Some.is c.get-node.ensures c.take_least-least.new.pool c.take_least-least.result.rest (subst (λ o. Shrinks c.args.since c.args.birth c.args.pool.now c.take_least-least.new.pool c.take_least-least.result.rest (tree_at c.args.pool.now o) (tree_at c.take_least-least.new.pool c.take_least-least.result.rest)) (sym c.in-Some-right.is) c.take_least-least.ensures.shrinks) c.copy_if_older-top-in-Equal.new.pool c.copy_if_older-top-in-Equal.result c.copy_if_older-top-in-Equal.ensures

pub settle-requires-in-Equal-clause-near : goal.settle-requires-in-Equal-clause-near
settle-requires-in-Equal-clause-near g t c = right_near c.args.since c.args.birth c.args.pool.now c.args.root (tree_at c.args.pool.now c.args.root) c.requires.can c.in-Some.id c.get-node.result c.in-Some.is c.get-node.ensures c.take_least-least.new.pool c.take_least-least.result.rest (subst (λ o. Shrinks c.args.since c.args.birth c.args.pool.now c.take_least-least.new.pool c.take_least-least.result.rest (tree_at c.args.pool.now o) (tree_at c.take_least-least.new.pool c.take_least-least.result.rest)) (sym c.in-Some-right.is) c.take_least-least.ensures.shrinks) c.copy_if_older-top-in-Equal.new.pool c.copy_if_older-top-in-Equal.result c.copy_if_older-top-in-Equal.ensures

pub returns-in-Some-right-clause-shrinks : goal.returns-in-Some-right-clause-shrinks
returns-in-Some-right-clause-shrinks g t c = (right_done c.args.since c.args.birth c.args.pool.now c.args.root (tree_at c.args.pool.now c.args.root) c.requires.can c.in-Some.id c.get-node.result c.in-Some.is c.get-node.ensures c.take_least-least.new.pool c.take_least-least.result.rest (subst (λ o. Shrinks c.args.since c.args.birth c.args.pool.now c.take_least-least.new.pool c.take_least-least.result.rest (tree_at c.args.pool.now o) (tree_at c.take_least-least.new.pool c.take_least-least.result.rest)) (sym c.in-Some-right.is) c.take_least-least.ensures.shrinks) c.copy_if_older-top-in-Equal.new.pool c.copy_if_older-top-in-Equal.result c.copy_if_older-top-in-Equal.ensures c.settle-in-Equal.new.pool c.settle-in-Equal.result c.take_least-least.result.key (tree_at c.settle-in-Equal.new.pool (Some c.settle-in-Equal.result)) c.settle-in-Equal.ensures).0

pub returns-in-Some-right-clause-keys : goal.returns-in-Some-right-clause-keys
returns-in-Some-right-clause-keys g t c = equal_keys c.args.since c.args.birth c.args.pool.now c.args.root (tree_at c.args.pool.now c.args.root) c.requires.can c.in-Some.id c.get-node.result c.in-Some.is c.get-node.ensures (g.O.KeyOrder.compare c.args.order.now) (g.met.O.KeyOrder.total c.args.order.now) c.args.key c.requires.rising c.requires.has c.take_least-least.result.key _ _ (sym c.compare.ensures ∙ c.in-Equal.is) (ap (λ r. keys (tree_at c.args.pool.now r)) c.in-Some-right.is ∙ c.take_least-least.ensures.keys) (right_done c.args.since c.args.birth c.args.pool.now c.args.root (tree_at c.args.pool.now c.args.root) c.requires.can c.in-Some.id c.get-node.result c.in-Some.is c.get-node.ensures c.take_least-least.new.pool c.take_least-least.result.rest (subst (λ o. Shrinks c.args.since c.args.birth c.args.pool.now c.take_least-least.new.pool c.take_least-least.result.rest (tree_at c.args.pool.now o) (tree_at c.take_least-least.new.pool c.take_least-least.result.rest)) (sym c.in-Some-right.is) c.take_least-least.ensures.shrinks) c.copy_if_older-top-in-Equal.new.pool c.copy_if_older-top-in-Equal.result c.copy_if_older-top-in-Equal.ensures c.settle-in-Equal.new.pool c.settle-in-Equal.result c.take_least-least.result.key (tree_at c.settle-in-Equal.new.pool (Some c.settle-in-Equal.result)) c.settle-in-Equal.ensures).1

pub copy_if_older-top-requires-clause-unlisted : goal.copy_if_older-top-requires-clause-unlisted
copy_if_older-top-requires-clause-unlisted g t c = left_plain c.args.since c.args.birth c.args.pool.now c.args.root (tree_at c.args.pool.now c.args.root) c.requires.can c.in-Some.id c.get-node.result c.in-Some.is c.get-node.ensures c.remove_at-left.new.pool c.remove_at-left.result c.remove_at-left.ensures.shrinks

pub copy_if_older-top-requires-in-Greater-clause-unlisted : goal.copy_if_older-top-requires-in-Greater-clause-unlisted
copy_if_older-top-requires-in-Greater-clause-unlisted g t c = right_plain c.args.since c.args.birth c.args.pool.now c.args.root (tree_at c.args.pool.now c.args.root) c.requires.can c.in-Some.id c.get-node.result c.in-Some.is c.get-node.ensures c.remove_at-right.new.pool c.remove_at-right.result c.remove_at-right.ensures.shrinks

pub copy_if_older-top-requires-in-Equal-clause-unlisted : goal.copy_if_older-top-requires-in-Equal-clause-unlisted
copy_if_older-top-requires-in-Equal-clause-unlisted g t c = right_plain c.args.since c.args.birth c.args.pool.now c.args.root (tree_at c.args.pool.now c.args.root) c.requires.can c.in-Some.id c.get-node.result c.in-Some.is c.get-node.ensures c.take_least-least.new.pool c.take_least-least.result.rest (subst (λ o. Shrinks c.args.since c.args.birth c.args.pool.now c.take_least-least.new.pool c.take_least-least.result.rest (tree_at c.args.pool.now o) (tree_at c.take_least-least.new.pool c.take_least-least.result.rest)) (sym c.in-Some-right.is) c.take_least-least.ensures.shrinks)

pub discard-requires-clause-unlisted : goal.discard-requires-clause-unlisted
discard-requires-clause-unlisted g t c = here_plain c.args.since c.args.birth c.args.pool.now c.args.root (tree_at c.args.pool.now c.args.root) c.requires.can c.in-Some.id c.get-node.result c.in-Some.is c.get-node.ensures
