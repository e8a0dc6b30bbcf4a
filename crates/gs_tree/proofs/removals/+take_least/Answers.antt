use Rattle.std.proofs.Common.{◌<◌, ◌∷◌, ◌++◌, Some, refl, sym, ap, subst, ◌∙◌, arith}
use Rattle.gs_tree.specs.Tree.{tree_at, height_at, keys}
use Rattle.gs_tree.specs.Shrinking.{Shrinks, CanShrink}
use Rattle.gs_tree.proofs.Removal.{no_left, left_can, left_falls, left_used, left_plain, here_plain, left_room, left_settle, left_near, left_done, o, left_is}
use Rattle.gs_tree.proofs.removals.+take_least.Goals as goal

pub returns-in_default-clause-shrinks : goal.returns-in_default-clause-shrinks
returns-in_default-clause-shrinks t c = (no_left c.args.since c.args.birth c.args.pool.now (Some c.args.id) (tree_at c.args.pool.now (Some c.args.id)) c.requires.can c.args.id c.get-node.result refl c.get-node.ensures c.discard.new.pool c.discard.ensures c.in_default.is).0

pub returns-in_default-clause-keys : goal.returns-in_default-clause-keys
returns-in_default-clause-keys t c = (no_left c.args.since c.args.birth c.args.pool.now (Some c.args.id) (tree_at c.args.pool.now (Some c.args.id)) c.requires.can c.args.id c.get-node.result refl c.get-node.ensures c.discard.new.pool c.discard.ensures c.in_default.is).1

pub take_least-least-requires : goal.take_least-least-requires
take_least-least-requires t c =
    let falls : height_at c.args.pool.now (Some c.in-Some.below) < t = subst (λ r. height_at c.args.pool.now r < t) c.in-Some.is (omega (arith, c.decreases, left_falls c.args.since c.args.birth c.args.pool.now (Some c.args.id) (tree_at c.args.pool.now (Some c.args.id)) c.requires.can c.args.id c.get-node.result refl c.get-node.ensures)) in
    (falls, (subst (λ r. CanShrink c.args.since c.args.pool.now r (tree_at c.args.pool.now r)) c.in-Some.is (left_can c.args.since c.args.birth c.args.pool.now (Some c.args.id) (tree_at c.args.pool.now (Some c.args.id)) c.requires.can c.args.id c.get-node.result refl c.get-node.ensures), c.requires.birth))

pub copy_if_older-top-requires-clause-used : goal.copy_if_older-top-requires-clause-used
copy_if_older-top-requires-clause-used t c = left_used c.args.since c.args.birth c.args.pool.now (Some c.args.id) (tree_at c.args.pool.now (Some c.args.id)) c.requires.can c.args.id c.get-node.result refl c.get-node.ensures c.take_least-least.new.pool c.take_least-least.result.rest (subst (λ o. Shrinks c.args.since c.args.birth c.args.pool.now c.take_least-least.new.pool c.take_least-least.result.rest (tree_at c.args.pool.now o) (tree_at c.take_least-least.new.pool c.take_least-least.result.rest)) (sym c.in-Some.is) c.take_least-least.ensures.shrinks)

pub copy_if_older-top-requires-clause-room : goal.copy_if_older-top-requires-clause-room
copy_if_older-top-requires-clause-room t c = left_room c.args.since c.args.birth c.args.pool.now (Some c.args.id) (tree_at c.args.pool.now (Some c.args.id)) c.requires.can c.args.id c.get-node.result refl c.get-node.ensures c.take_least-least.new.pool c.take_least-least.result.rest (subst (λ o. Shrinks c.args.since c.args.birth c.args.pool.now c.take_least-least.new.pool c.take_least-least.result.rest (tree_at c.args.pool.now o) (tree_at c.take_least-least.new.pool c.take_least-least.result.rest)) (sym c.in-Some.is) c.take_least-least.ensures.shrinks)

pub settle-root-requires-clause-can : goal.settle-root-requires-clause-can
settle-root-requires-clause-can t c = left_settle c.args.since c.args.birth c.args.pool.now (Some c.args.id) (tree_at c.args.pool.now (Some c.args.id)) c.requires.can c.args.id c.get-node.result refl c.get-node.ensures c.take_least-least.new.pool c.take_least-least.result.rest (subst (λ o. Shrinks c.args.since c.args.birth c.args.pool.now c.take_least-least.new.pool c.take_least-least.result.rest (tree_at c.args.pool.now o) (tree_at c.take_least-least.new.pool c.take_least-least.result.rest)) (sym c.in-Some.is) c.take_least-least.ensures.shrinks) c.copy_if_older-top.new.pool c.copy_if_older-top.result c.copy_if_older-top.ensures

pub settle-root-requires-clause-near : goal.settle-root-requires-clause-near
settle-root-requires-clause-near t c = left_near c.args.since c.args.birth c.args.pool.now (Some c.args.id) (tree_at c.args.pool.now (Some c.args.id)) c.requires.can c.args.id c.get-node.result refl c.get-node.ensures c.take_least-least.new.pool c.take_least-least.result.rest (subst (λ o. Shrinks c.args.since c.args.birth c.args.pool.now c.take_least-least.new.pool c.take_least-least.result.rest (tree_at c.args.pool.now o) (tree_at c.take_least-least.new.pool c.take_least-least.result.rest)) (sym c.in-Some.is) c.take_least-least.ensures.shrinks) c.copy_if_older-top.new.pool c.copy_if_older-top.result c.copy_if_older-top.ensures

pub returns-clause-shrinks : goal.returns-clause-shrinks
returns-clause-shrinks t c = (left_done c.args.since c.args.birth c.args.pool.now (Some c.args.id) (tree_at c.args.pool.now (Some c.args.id)) c.requires.can c.args.id c.get-node.result refl c.get-node.ensures c.take_least-least.new.pool c.take_least-least.result.rest (subst (λ o. Shrinks c.args.since c.args.birth c.args.pool.now c.take_least-least.new.pool c.take_least-least.result.rest (tree_at c.args.pool.now o) (tree_at c.take_least-least.new.pool c.take_least-least.result.rest)) (sym c.in-Some.is) c.take_least-least.ensures.shrinks) c.copy_if_older-top.new.pool c.copy_if_older-top.result c.copy_if_older-top.ensures c.settle-root.new.pool c.settle-root.result c.get-node.result.key (tree_at c.settle-root.new.pool (Some c.settle-root.result)) c.settle-root.ensures).0

pub returns-clause-keys : goal.returns-clause-keys
returns-clause-keys t c =
    let top = o c.args.since c.args.birth c.args.pool.now (Some c.args.id) (tree_at c.args.pool.now (Some c.args.id)) c.requires.can c.args.id c.get-node.result refl c.get-node.ensures in
    ap keys top.is ∙ ap (λ xs. xs ++ c.get-node.result.key ∷ keys top.r) (ap keys (sym (left_is c.args.since c.args.birth c.args.pool.now (Some c.args.id) (tree_at c.args.pool.now (Some c.args.id)) c.requires.can c.args.id c.get-node.result refl c.get-node.ensures)) ∙ ap (λ r. keys (tree_at c.args.pool.now r)) c.in-Some.is ∙ c.take_least-least.ensures.keys) ∙ ap (λ xs. c.take_least-least.result.key ∷ xs) (sym (left_done c.args.since c.args.birth c.args.pool.now (Some c.args.id) (tree_at c.args.pool.now (Some c.args.id)) c.requires.can c.args.id c.get-node.result refl c.get-node.ensures c.take_least-least.new.pool c.take_least-least.result.rest (subst (λ o. Shrinks c.args.since c.args.birth c.args.pool.now c.take_least-least.new.pool c.take_least-least.result.rest (tree_at c.args.pool.now o) (tree_at c.take_least-least.new.pool c.take_least-least.result.rest)) (sym c.in-Some.is) c.take_least-least.ensures.shrinks) c.copy_if_older-top.new.pool c.copy_if_older-top.result c.copy_if_older-top.ensures c.settle-root.new.pool c.settle-root.result c.get-node.result.key (tree_at c.settle-root.new.pool (Some c.settle-root.result)) c.settle-root.ensures).1)

pub copy_if_older-top-requires-clause-unlisted : goal.copy_if_older-top-requires-clause-unlisted
copy_if_older-top-requires-clause-unlisted t c = left_plain c.args.since c.args.birth c.args.pool.now (Some c.args.id) (tree_at c.args.pool.now (Some c.args.id)) c.requires.can c.args.id c.get-node.result refl c.get-node.ensures c.take_least-least.new.pool c.take_least-least.result.rest (subst (λ o. Shrinks c.args.since c.args.birth c.args.pool.now c.take_least-least.new.pool c.take_least-least.result.rest (tree_at c.args.pool.now o) (tree_at c.take_least-least.new.pool c.take_least-least.result.rest)) (sym c.in-Some.is) c.take_least-least.ensures.shrinks)

pub discard-requires-clause-unlisted : goal.discard-requires-clause-unlisted
discard-requires-clause-unlisted t c = here_plain c.args.since c.args.birth c.args.pool.now (Some c.args.id) (tree_at c.args.pool.now (Some c.args.id)) c.requires.can c.args.id c.get-node.result refl c.get-node.ensures
