use Rattle.gs_tree.proofs.Merging.{no_key}
use Rattle.gs_changes.proofs.PruneLemmas.{pruning_more}
use Rattle.gs_changes.proofs.removals.remove_all.Goals as goal

pub loop-key-preserved : goal.loop-key-preserved
loop-key-preserved g c = pruning_more (g.O.KeyOrder.compare c.args.order.now) c.args.birth c.args.pool.now c.loop-key.pool c.remove_key.new.pool c.args.root c.loop-key.pruned c.in-Ok.rest c.args.keys.now c.loop-key.key-index no_key c.loop-key-test.true c.in-Ok.ensures.ok c.loop-key.invariant
