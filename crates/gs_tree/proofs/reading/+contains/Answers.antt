use Rattle.std.proofs.Common.{sym, ◌∙◌, arith}
use Rattle.gs_tree.proofs.ReadingLemmas.{parts, contains_left, contains_right, contains_top}
use Rattle.gs_tree.proofs.reading.+contains.Goals as goal

pub contains-requires : goal.contains-requires
contains-requires g t c κs within =
    let s = parts (g.O.KeyOrder.compare c.args.order.now) (g.met.O.KeyOrder.total c.args.order.now) c.args.pool.now c.args.root c.in-Some.id c.get-node.result c.requires c.in-Some.is c.get-node.ensures in
    (omega (arith, c.decreases, s.left_falls), (within, s.left_set))

pub contains-requires-in-Greater : goal.contains-requires-in-Greater
contains-requires-in-Greater g t c κs within =
    let s = parts (g.O.KeyOrder.compare c.args.order.now) (g.met.O.KeyOrder.total c.args.order.now) c.args.pool.now c.args.root c.in-Some.id c.get-node.result c.requires c.in-Some.is c.get-node.ensures in
    (omega (arith, c.decreases, s.right_falls), (within, s.right_set))

pub returns-in-Less : goal.returns-in-Less
returns-in-Less g t c =
    let s = parts (g.O.KeyOrder.compare c.args.order.now) (g.met.O.KeyOrder.total c.args.order.now) c.args.pool.now c.args.root c.in-Some.id c.get-node.result c.requires c.in-Some.is c.get-node.ensures in
    contains_left (g.O.KeyOrder.compare c.args.order.now) (g.met.O.KeyOrder.total c.args.order.now) c.args.pool.now c.args.root c.get-node.result s c.args.key c.contains.result (sym c.compare.ensures ∙ c.in-Less.is) c.contains.ensures

pub returns-in-Equal : goal.returns-in-Equal
returns-in-Equal g t c =
    let s = parts (g.O.KeyOrder.compare c.args.order.now) (g.met.O.KeyOrder.total c.args.order.now) c.args.pool.now c.args.root c.in-Some.id c.get-node.result c.requires c.in-Some.is c.get-node.ensures in
    contains_top (g.O.KeyOrder.compare c.args.order.now) (g.met.O.KeyOrder.total c.args.order.now) c.args.pool.now c.args.root c.get-node.result s c.args.key (sym c.compare.ensures ∙ c.in-Equal.is)

pub returns-in-Greater : goal.returns-in-Greater
returns-in-Greater g t c =
    let s = parts (g.O.KeyOrder.compare c.args.order.now) (g.met.O.KeyOrder.total c.args.order.now) c.args.pool.now c.args.root c.in-Some.id c.get-node.result c.requires c.in-Some.is c.get-node.ensures in
    contains_right (g.O.KeyOrder.compare c.args.order.now) (g.met.O.KeyOrder.total c.args.order.now) c.args.pool.now c.args.root c.get-node.result s c.args.key c.contains-in-Greater.result (sym c.compare.ensures ∙ c.in-Greater.is) c.contains-in-Greater.ensures
