use Rattle.std.proofs.Common.{arith}
use Rattle.gs_tree.proofs.ReadingLemmas.{counted}
use Rattle.gs_tree.proofs.reading.+count_below.Goals as goal

pub count_below-requires : goal.count_below-requires
count_below-requires t c =
    let s = counted c.args.pool.now c.args.root c.in-Some.id c.get-node.result c.requires.tree c.in-Some.is c.get-node.ensures in
    (omega (arith, c.decreases, s.left_falls), (s.left_tree, c.requires.few))

pub count_below-requires-2 : goal.count_below-requires-2
count_below-requires-2 t c =
    let s = counted c.args.pool.now c.args.root c.in-Some.id c.get-node.result c.requires.tree c.in-Some.is c.get-node.ensures in
    (omega (arith, c.decreases, s.right_falls), (s.right_tree, c.requires.few))

pub overflow_add-result : goal.overflow_add-result
overflow_add-result t c =
    let s = counted c.args.pool.now c.args.root c.in-Some.id c.get-node.result c.requires.tree c.in-Some.is c.get-node.ensures in
    omega (arith, s.count, s.most, c.requires.few, c.count_below.ensures, c.count_below-2.ensures)

pub overflow_add-result-2 : goal.overflow_add-result-2
overflow_add-result-2 t c =
    let s = counted c.args.pool.now c.args.root c.in-Some.id c.get-node.result c.requires.tree c.in-Some.is c.get-node.ensures in
    omega (arith, s.count, s.most, c.requires.few, c.count_below.ensures, c.count_below-2.ensures)

pub returns : goal.returns
returns t c =
    let s = counted c.args.pool.now c.args.root c.in-Some.id c.get-node.result c.requires.tree c.in-Some.is c.get-node.ensures in
    omega (arith, s.count, c.count_below.ensures, c.count_below-2.ensures)
