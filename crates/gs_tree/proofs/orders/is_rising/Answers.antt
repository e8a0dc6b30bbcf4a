use Rattle.std.proofs.Common.{sym, ◌∙◌, arith}
use Rattle.gs_tree.proofs.Merging.{no_key}
use Rattle.gs_tree.proofs.Runs.{rising_one, rising_step, falling_step, rising_all}
use Rattle.gs_tree.proofs.orders.is_rising.Goals as goal

pub keys-init : goal.keys-init
keys-init g c = record { some = omega arith; rising = rising_one (g.O.KeyOrder.compare c.args.order.now) (g.met.O.KeyOrder.total c.args.order.now) c.args.run.now }

pub keys-preserved : goal.keys-preserved
keys-preserved g c = record { some = omega arith; rising = rising_step (g.O.KeyOrder.compare c.args.order.now) (g.met.O.KeyOrder.total c.args.order.now) c.args.run.now c.keys.next no_key c.keys.invariant.some c.keys-test.true (sym c.is_below.ensures ∙ c.if-not-is_below.false) c.keys.invariant.rising }

pub returns-then-not-is_below : goal.returns-then-not-is_below
returns-then-not-is_below g c = falling_step (g.O.KeyOrder.compare c.args.order.now) (g.met.O.KeyOrder.total c.args.order.now) c.args.run.now c.keys.next no_key c.keys.invariant.some c.keys-test.true (sym c.is_below.ensures ∙ c.if-not-is_below.true)

pub returns : goal.returns
returns g c = rising_all (g.O.KeyOrder.compare c.args.order.now) (g.met.O.KeyOrder.total c.args.order.now) c.args.run.now c.keys.next c.keys-test.false c.keys.invariant.rising
