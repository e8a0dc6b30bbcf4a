use Rattle.std.proofs.Common.{sym, ◌∙◌, arith, true≢false}
use Rattle.gs_changes.proofs.PruneLemmas.{lacks, has}
use Rattle.gs_changes.proofs.removals.remove_key.Goals as goal

pub returns-then-not-contains-clause-ok : goal.returns-then-not-contains-clause-ok
returns-then-not-contains-clause-ok g c = lacks (g.O.KeyOrder.compare c.args.order.now) c.args.birth c.args.pool.now c.args.pruned c.args.key c.requires.set (λ there. true≢false (sym (c.contains.ensures.1 there) ∙ c.if-not-contains.true))

pub returns-clause-ok : goal.returns-clause-ok
returns-clause-ok g c = has (g.O.KeyOrder.compare c.args.order.now) c.args.birth c.args.pool.now c.remove.new.pool c.args.pruned (record { root = c.in_ok-root.root; removed = _ }) c.args.key (omega arith) c.in_ok-root.ensures.ok
