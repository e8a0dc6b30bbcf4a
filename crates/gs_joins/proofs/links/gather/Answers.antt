use Rattle.std.proofs.Common.{◌<◌, ◌+◌, length, take, ap, ◌∙◌, arith}
use Rattle.std.proofs.lemmas.List.Sorted.{All-permutation, IsPermutation-trans}
use Rattle.gs_joins.proofs.LotLemmas.{swap_first}
use Rattle.gs_joins.proofs.links.gather.Goals as goal

pub next_linked-requires-clause-order : goal.next_linked-requires-clause-order
next_linked-requires-clause-order c = All-permutation (λ i. i < length c.args.lots.now) c.args.order.now c.lots.order c.lots.invariant.same c.requires.order

pub lots-preserved : goal.lots-preserved
lots-preserved c = record {
  some = omega arith;
  within = omega (arith, c.in-Some.ensures, c.swap.ensures.len);
  same = IsPermutation-trans c.args.order.now c.lots.order c.swap.new.self c.lots.invariant.same c.swap.ensures.permutation;
  first = ap (take 1) c.swap.ensures.after ∙ swap_first c.lots.order c.lots.many (c.lots.many + c.in-Some.next) (omega arith) (omega arith) ∙ c.lots.invariant.first;
}
