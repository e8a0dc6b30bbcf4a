use Rattle.std.proofs.Common.{arith}
use Rattle.gs_triple_lists.proofs.OrderLemmas.{adjacent_said}
use Rattle.gs_triple_lists.proofs.orders.is_rising.Goals as goal

pub returns : goal.returns
returns c _ = adjacent_said c.args.terms.now c.args.numbers.now (λ k low. c.loop-next.invariant k (omega (arith, low, c.loop-next-test.false)))
