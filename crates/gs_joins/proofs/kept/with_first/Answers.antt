use Rattle.std.proofs.Common.{arith}
use Rattle.std.proofs.lemmas.List.Sorted.{IsPermutation-swap}
use Rattle.gs_joins.proofs.GroupLemmas.{all_numbers, all_moved}
use Rattle.gs_joins.proofs.kept.with_first.Goals as goal

pub returns-clause-all : goal.returns-clause-all
returns-clause-all c =
    all_moved c.args.lots.now c.loop-i.order.items c.swap.new.self.items
    (IsPermutation-swap c.loop-i.order.items c.swap.new.self.items 0 c.args.at (omega (arith, c.loop-i.invariant.len, c.requires)) (omega (arith, c.loop-i.invariant.len, c.requires)) c.swap.ensures.items)
    (all_numbers c.args.lots.now c.loop-i.order.items c.loop-i.i c.loop-i.invariant.len c.loop-i-test.false c.loop-i.auto.i-end c.loop-i.invariant.is)
