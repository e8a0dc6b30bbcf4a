use Rattle.gs_joins.proofs.LotLemmas.{reduces_then}
use Rattle.gs_joins.proofs.reduction.reduce_once.Goals as goal

pub loop-i-preserved : goal.loop-i-preserved
loop-i-preserved c = reduces_then c.args.lots.now.items c.loop-i.lots.items c.reduce_at.new.lots.items c.loop-i.invariant c.in_ok-reduce_at.ensures
