use Rattle.std.proofs.Common.{refl, sym, ap, ◌∙◌, ◌∷◌, [], Some, arith}
use Rattle.gs_tree.specs.Reading.{keys_at, filled_up}
use Rattle.gs_tree.proofs.FromLemmas.{filled_twice}
use Rattle.gs_tree.proofs.ReadingLemmas.{sides}
use Rattle.gs_tree.proofs.reading.+walk_all.Goals as goal

pub walk_all-look_at-right-requires : goal.walk_all-look_at-right-requires
walk_all-look_at-right-requires t c = (sides c.args.pool.now (Some c.args.id) c.args.id c.get-node.result c.requires.tree refl c.get-node.ensures).right_tree

pub walk_all-look_at-left-requires : goal.walk_all-look_at-left-requires
walk_all-look_at-left-requires t c = (sides c.args.pool.now (Some c.args.id) c.args.id c.get-node.result c.requires.tree refl c.get-node.ensures).left_tree

pub walk_all-walk_side-requires : goal.walk_all-walk_side-requires
walk_all-walk_side-requires t c =
    let s = sides c.args.pool.now (Some c.args.id) c.args.id c.get-node.result c.requires.tree refl c.get-node.ensures in
    (omega (arith, c.decreases, s.left_falls, c.look_at-left.ensures.height), (c.look_at-left.ensures.tree, c.requires.room))

pub walk_all-walk_side-requires-2 : goal.walk_all-walk_side-requires-2
walk_all-walk_side-requires-2 t c =
    let s = sides c.args.pool.now (Some c.args.id) c.args.id c.get-node.result c.requires.tree refl c.get-node.ensures in
    (omega (arith, c.decreases, s.right_falls, c.look_at-right.ensures.height), (c.look_at-right.ensures.tree, omega (arith, c.requires.room, c.walk_side.ensures.capacity, c.push_below.ensures.capacity)))

pub walk_all-returns-clause-keys : goal.walk_all-returns-clause-keys
walk_all-returns-clause-keys t c =
    let s = sides c.args.pool.now (Some c.args.id) c.args.id c.get-node.result c.requires.tree refl c.get-node.ensures in
    let xs = c.args.to.now.items in
    let low = keys_at c.args.pool.now c.get-node.result.left in
    let high = keys_at c.args.pool.now c.get-node.result.right in
    let top = c.get-node.result.key in
    c.walk_side-2.ensures.keys ∙ ap (filled_up c.args.end c.push_below.new.to.items) c.look_at-right.ensures.keys
    ∙ ap (λ ys. filled_up c.args.end ys high) (c.push_below.ensures.keys ∙ ap (λ ys. filled_up c.args.end ys (top ∷ [])) (c.walk_side.ensures.keys ∙ ap (filled_up c.args.end xs) c.look_at-left.ensures.keys))
    ∙ filled_twice c.args.end (filled_up c.args.end xs low) (top ∷ []) high ∙ filled_twice c.args.end xs low (top ∷ high)
    ∙ ap (filled_up c.args.end xs) (sym s.keys_are)
