use Rattle.std.proofs.Common.{sym, ap, ◌∙◌, ◌∷◌, [], None, arith}
use Rattle.gs_tree.specs.Reading.{keys_at, keys_from, filled_up}
use Rattle.gs_tree.proofs.FromLemmas.{filled_twice, from_all}
use Rattle.gs_tree.proofs.ReadingLemmas.{parts, top_past, top_not_past, readable_tree}
use Rattle.gs_tree.proofs.reading.+walk.Goals as goal

pub walk-requires : goal.walk-requires
walk-requires g t c κs within =
    let s = parts (g.O.KeyOrder.compare c.args.order.now) (g.met.O.KeyOrder.total c.args.order.now) c.args.pool.now c.args.root c.in-Some.id c.get-node.result c.requires.set c.in-Some.is c.get-node.ensures in
    (omega (arith, c.decreases, s.right_falls), (within, (s.right_set, c.requires.room)))

pub returns-then-not-is_past-clause-keys : goal.returns-then-not-is_past-clause-keys
returns-then-not-is_past-clause-keys g t c =
    let s = parts (g.O.KeyOrder.compare c.args.order.now) (g.met.O.KeyOrder.total c.args.order.now) c.args.pool.now c.args.root c.in-Some.id c.get-node.result c.requires.set c.in-Some.is c.get-node.ensures in
    c.walk.ensures.keys ∙ ap (filled_up c.args.end c.args.to.now.items) (sym (top_not_past (g.O.KeyOrder.compare c.args.order.now) (g.met.O.KeyOrder.total c.args.order.now) c.args.pool.now c.args.root c.get-node.result s c.args.from (sym c.is_past.ensures ∙ c.if-not-is_past.true)))

pub walk-requires-2 : goal.walk-requires-2
walk-requires-2 g t c κs within =
    let s = parts (g.O.KeyOrder.compare c.args.order.now) (g.met.O.KeyOrder.total c.args.order.now) c.args.pool.now c.args.root c.in-Some.id c.get-node.result c.requires.set c.in-Some.is c.get-node.ensures in
    (omega (arith, c.decreases, s.left_falls), (within, (s.left_set, c.requires.room)))

pub walk_tree-requires-clause-tree : goal.walk_tree-requires-clause-tree
walk_tree-requires-clause-tree g t c =
    let s = parts (g.O.KeyOrder.compare c.args.order.now) (g.met.O.KeyOrder.total c.args.order.now) c.args.pool.now c.args.root c.in-Some.id c.get-node.result c.requires.set c.in-Some.is c.get-node.ensures in
    readable_tree (g.O.KeyOrder.compare c.args.order.now) c.args.pool.now c.get-node.result.right s.right_set

pub walk_tree-requires-clause-room : goal.walk_tree-requires-clause-room
walk_tree-requires-clause-room g t c = omega (arith, c.requires.room, c.walk-2.ensures.capacity, c.push_below.ensures.capacity)

pub returns-clause-keys : goal.returns-clause-keys
returns-clause-keys g t c =
    let s = parts (g.O.KeyOrder.compare c.args.order.now) (g.met.O.KeyOrder.total c.args.order.now) c.args.pool.now c.args.root c.in-Some.id c.get-node.result c.requires.set c.in-Some.is c.get-node.ensures in
    let cmp = g.O.KeyOrder.compare c.args.order.now in
    let xs = c.args.to.now.items in
    let low = keys_from cmp c.args.from (keys_at c.args.pool.now c.get-node.result.left) in
    let right = keys_at c.args.pool.now c.get-node.result.right in
    let high = keys_from cmp None right in
    let top = c.get-node.result.key in
    c.walk_tree.ensures.keys ∙ ap (λ ys. filled_up c.args.end ys right) (c.push_below.ensures.keys ∙ ap (λ ys. filled_up c.args.end ys (top ∷ [])) c.walk-2.ensures.keys)
    ∙ ap (filled_up c.args.end (filled_up c.args.end (filled_up c.args.end xs low) (top ∷ []))) (sym (from_all cmp right))
    ∙ filled_twice c.args.end (filled_up c.args.end xs low) (top ∷ []) high ∙ filled_twice c.args.end xs low (top ∷ high)
    ∙ ap (filled_up c.args.end xs) (sym (top_past (g.O.KeyOrder.compare c.args.order.now) (g.met.O.KeyOrder.total c.args.order.now) c.args.pool.now c.args.root c.get-node.result s c.args.from (sym c.is_past.ensures ∙ c.if-not-is_past.false)))
