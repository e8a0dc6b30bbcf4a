use Rattle.std.proofs.Common.{subst}
use Rattle.gs_match.specs.Found.{GainsKeys}
use Rattle.gs_match.proofs.SolveLemmas.{gathered_at, collects}
use Rattle.gs_match.proofs.search.collect.Goals as goal

pub loop-i-preserved : goal.loop-i-preserved
loop-i-preserved c =
    gathered_at c.args.order.now.dict.now.terms c.args.lots.now c.loop-i.i c.loop-i.found c.add_all.new.self c.in_ok-list.list.items c.loop-i-test.true c.loop-i.invariant c.in_ok-list.ensures
    (subst (GainsKeys c.args.order.now.dict.now.terms c.loop-i.found c.add_all.new.self) c.as_slice.ensures.value c.in_ok-add_all.ensures)

pub returns : goal.returns
returns c = collects c.args.order.now.dict.now.terms c.args.lots.now c.loop-i.i c.loop-i.found c.loop-i-test.false c.loop-i.invariant
