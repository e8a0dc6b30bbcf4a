use Rattle.std.proofs.Common.{◌≡◌, ℕ, ◌+◌, ◌<◌, get_or}
use Rattle.std.specs.declared.cmp.Ordering.TheVariants.{Less}
use Rattle.gs_model.specs.Triples.{triple_cmp}
use Rattle.gs_triple_lists.specs.Kept.{triple_of_numbers}
use Rattle.gs_triple_lists.proofs.OrderLemmas.{no_numbers}
use Rattle.gs_triple_lists.proofs.orders.is_rising.Given as goal

abbrev pub invariant-loop-next : goal.invariant-loop-next
invariant-loop-next l = (k : ℕ) → k + 1 < l.next → triple_cmp (triple_of_numbers l.terms (get_or l.numbers k no_numbers)) (triple_of_numbers l.terms (get_or l.numbers (k + 1) no_numbers)) ≡ Less
