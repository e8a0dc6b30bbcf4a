use Rattle.std.proofs.Common.{◌≤◌, length, sym, subst, take, get_or, None, arith}
use Rattle.gs_quads.specs.Found.{one_graph, all_graphs, FindsMore}
use Rattle.gs_quads.proofs.Adding.{adds_none, adds_both}
use Rattle.gs_quads.proofs.Walking.{graphs_more, graphs_full}
use Rattle.gs_quads.proofs.walks.add_graphs.Goals as goal

pub loop-number-init : goal.loop-number-init
loop-number-init c = adds_none c.args.source.now c.args.most c.args.found.now c.requires.found

pub loop-number-preserved : goal.loop-number-preserved
loop-number-preserved c =
    let s = c.args.source.now in
    let i = c.loop-number.number-index in
    let ns = c.args.numbers.now in
    subst (FindsMore s c.args.most c.args.found.now c.add_all.new.found) (sym (graphs_more s ns i 0 c.loop-number-test.true))
    (adds_both s c.args.most c.args.found.now c.loop-number.found c.add_all.new.found (all_graphs s (take i ns)) (one_graph s None (get_or ns i 0)) c.loop-number.invariant c.in_ok-add_all.ensures)

pub returns-then-len-most : goal.returns-then-len-most
returns-then-len-most c =
    let full : c.args.most ≤ length c.loop-number.found.keys.items = omega arith in
    graphs_full c.args.source.now c.args.most c.args.found.now c.loop-number.found c.args.numbers.now c.loop-number.number-index c.loop-number.invariant full
