use Rattle.std.proofs.Common.{◌∷◌, min, None, length, length-append, sym, ap, ◌∙◌, arith}
use Rattle.gs_tree.specs.Reading.{keys_at, keys_from}
use Rattle.gs_tree.proofs.ReadingLemmas.{parts, top_past, top_not_past}
use Rattle.gs_tree.proofs.reading.+count_from.Goals as goal

pub count_from-requires : goal.count_from-requires
count_from-requires g t c κs within =
    let s = parts (g.O.KeyOrder.compare c.args.order.now) (g.met.O.KeyOrder.total c.args.order.now) c.args.pool.now c.args.root c.in-Some.id c.get-node.result c.requires c.in-Some.is c.get-node.ensures in
    (omega (arith, c.decreases, s.right_falls), (within, s.right_set))

pub returns-then-not-is_past : goal.returns-then-not-is_past
returns-then-not-is_past g t c =
    let s = parts (g.O.KeyOrder.compare c.args.order.now) (g.met.O.KeyOrder.total c.args.order.now) c.args.pool.now c.args.root c.in-Some.id c.get-node.result c.requires c.in-Some.is c.get-node.ensures in
    c.count_from.ensures ∙ ap (λ ks. min c.args.most (length ks)) (sym (top_not_past (g.O.KeyOrder.compare c.args.order.now) (g.met.O.KeyOrder.total c.args.order.now) c.args.pool.now c.args.root c.get-node.result s c.args.from (sym c.is_past.ensures ∙ c.if-not-is_past.true)))

pub count_from-low-requires : goal.count_from-low-requires
count_from-low-requires g t c κs within =
    let s = parts (g.O.KeyOrder.compare c.args.order.now) (g.met.O.KeyOrder.total c.args.order.now) c.args.pool.now c.args.root c.in-Some.id c.get-node.result c.requires c.in-Some.is c.get-node.ensures in
    (omega (arith, c.decreases, s.left_falls), (within, s.left_set))

pub returns-then-low-most : goal.returns-then-low-most
returns-then-low-most g t c =
    let s = parts (g.O.KeyOrder.compare c.args.order.now) (g.met.O.KeyOrder.total c.args.order.now) c.args.pool.now c.args.root c.in-Some.id c.get-node.result c.requires c.in-Some.is c.get-node.ensures in
    let cut = ap length (top_past (g.O.KeyOrder.compare c.args.order.now) (g.met.O.KeyOrder.total c.args.order.now) c.args.pool.now c.args.root c.get-node.result s c.args.from (sym c.is_past.ensures ∙ c.if-not-is_past.false)) in
    omega (arith, cut, length-append (keys_from (g.O.KeyOrder.compare c.args.order.now) c.args.from (keys_at c.args.pool.now c.get-node.result.left)) (c.get-node.result.key ∷ keys_from (g.O.KeyOrder.compare c.args.order.now) None (keys_at c.args.pool.now c.get-node.result.right)), c.count_from-low.ensures, c.if-low-most.true)

pub count_from-requires-2 : goal.count_from-requires-2
count_from-requires-2 g t c κs within =
    let s = parts (g.O.KeyOrder.compare c.args.order.now) (g.met.O.KeyOrder.total c.args.order.now) c.args.pool.now c.args.root c.in-Some.id c.get-node.result c.requires c.in-Some.is c.get-node.ensures in
    (omega (arith, c.decreases, s.right_falls), (within, s.right_set))

pub returns : goal.returns
returns g t c =
    let s = parts (g.O.KeyOrder.compare c.args.order.now) (g.met.O.KeyOrder.total c.args.order.now) c.args.pool.now c.args.root c.in-Some.id c.get-node.result c.requires c.in-Some.is c.get-node.ensures in
    let cut = ap length (top_past (g.O.KeyOrder.compare c.args.order.now) (g.met.O.KeyOrder.total c.args.order.now) c.args.pool.now c.args.root c.get-node.result s c.args.from (sym c.is_past.ensures ∙ c.if-not-is_past.false)) in
    omega (arith, cut, length-append (keys_from (g.O.KeyOrder.compare c.args.order.now) c.args.from (keys_at c.args.pool.now c.get-node.result.left)) (c.get-node.result.key ∷ keys_from (g.O.KeyOrder.compare c.args.order.now) None (keys_at c.args.pool.now c.get-node.result.right)), c.count_from-low.ensures, c.count_from-2.ensures, c.if-low-most.false)
