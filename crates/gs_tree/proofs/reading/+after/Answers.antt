use Rattle.std.proofs.Common.{Some, None, sym, ◌∙◌, arith}
use Rattle.gs_tree.proofs.ReadingLemmas.{parts, after_left, after_right}
use Rattle.gs_tree.proofs.reading.+after.Goals as goal

pub after-requires : goal.after-requires
after-requires g t c κs within =
    let s = parts (g.O.KeyOrder.compare c.args.order.now) (g.met.O.KeyOrder.total c.args.order.now) c.args.pool.now c.args.root c.in-Some.id c.get-node.result c.requires c.in-Some.is c.get-node.ensures in
    (omega (arith, c.decreases, s.right_falls), (within, s.right_set))

pub returns-then-not-is_past : goal.returns-then-not-is_past
returns-then-not-is_past g t c =
    let s = parts (g.O.KeyOrder.compare c.args.order.now) (g.met.O.KeyOrder.total c.args.order.now) c.args.pool.now c.args.root c.in-Some.id c.get-node.result c.requires c.in-Some.is c.get-node.ensures in
    after_right (g.O.KeyOrder.compare c.args.order.now) (g.met.O.KeyOrder.total c.args.order.now) c.args.pool.now c.args.root c.get-node.result s c.args.key c.after.result (sym c.is_past.ensures ∙ c.if-not-is_past.true) c.after.ensures

pub after-requires-2 : goal.after-requires-2
after-requires-2 g t c κs within =
    let s = parts (g.O.KeyOrder.compare c.args.order.now) (g.met.O.KeyOrder.total c.args.order.now) c.args.pool.now c.args.root c.in-Some.id c.get-node.result c.requires c.in-Some.is c.get-node.ensures in
    (omega (arith, c.decreases, s.left_falls), (within, s.left_set))

pub returns-in_default-after : goal.returns-in_default-after
returns-in_default-after g t c =
    let s = parts (g.O.KeyOrder.compare c.args.order.now) (g.met.O.KeyOrder.total c.args.order.now) c.args.pool.now c.args.root c.in-Some.id c.get-node.result c.requires c.in-Some.is c.get-node.ensures in
    after_left (g.O.KeyOrder.compare c.args.order.now) (g.met.O.KeyOrder.total c.args.order.now) c.args.pool.now c.args.root c.get-node.result s c.args.key None (sym c.is_past.ensures ∙ c.if-not-is_past.false) (sym c.in_default-after.is ∙ c.after-2.ensures)

pub returns : goal.returns
returns g t c =
    let s = parts (g.O.KeyOrder.compare c.args.order.now) (g.met.O.KeyOrder.total c.args.order.now) c.args.pool.now c.args.root c.in-Some.id c.get-node.result c.requires c.in-Some.is c.get-node.ensures in
    after_left (g.O.KeyOrder.compare c.args.order.now) (g.met.O.KeyOrder.total c.args.order.now) c.args.pool.now c.args.root c.get-node.result s c.args.key (Some c.in-Some-after.found) (sym c.is_past.ensures ∙ c.if-not-is_past.false) (sym c.in-Some-after.is ∙ c.after-2.ensures)
