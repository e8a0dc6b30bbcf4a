use Rattle.gs_tree.proofs.Merging.{cut_of}
use Rattle.gs_tree.proofs.unions.cut_at.Goals as goal

pub returns : goal.returns
returns g c = cut_of (g.O.KeyOrder.compare c.args.order.now) c.args.key c.args.run.now c.split_at.result.0.now c.split_at-2.result.1.now _ _ c.find_place-at.ensures c.split_at.ensures.front c.split_at-2.ensures.back
