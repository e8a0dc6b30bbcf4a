use Rattle.std.proofs.Common.{arith}
use Rattle.gs_tree.proofs.Discards.{drop_discards, free_discards}
use Rattle.gs_tree.proofs.removals.discard.Goals as goal

pub returns-then-get-since : goal.returns-then-get-since
returns-then-get-since c = drop_discards c.args.since c.args.pool.now c.mark_replaced.new.self c.args.id c.get.result c.get.ensures (omega (arith, c.if-get-since.true)) c.requires.unlisted c.mark_replaced.ensures.marks c.mark_replaced.ensures.aside

pub returns-else-get-since : goal.returns-else-get-since
returns-else-get-since c = free_discards c.args.since c.args.pool.now c.free.new.self c.args.id c.get.result c.get.ensures (omega (arith, c.if-get-since.false)) c.requires.unlisted c.free.ensures.updates c.free.ensures.marks c.free.ensures.room c.free.ensures.in_use
