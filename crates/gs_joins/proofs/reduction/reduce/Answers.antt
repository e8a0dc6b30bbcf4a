use Rattle.gs_joins.proofs.LotLemmas.{reduces_then}
use Rattle.gs_joins.proofs.reduction.reduce.Goals as goal

pub returns-then-not-branch : goal.returns-then-not-branch
returns-then-not-branch c = reduces_then c.args.lots.now.items c.loop.lots.items c.reduce_once.new.lots.items c.loop.invariant c.in_ok-reduce_once.ensures

pub loop-preserved : goal.loop-preserved
loop-preserved c = reduces_then c.args.lots.now.items c.loop.lots.items c.reduce_once.new.lots.items c.loop.invariant c.in_ok-reduce_once.ensures
