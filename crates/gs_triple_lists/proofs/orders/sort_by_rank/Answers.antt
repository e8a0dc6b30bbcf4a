use Rattle.std.specs.Ordering.{is_lt}
use Rattle.std.proofs.Common.{◌≡◌, rules}
use Rattle.std.proofs.lemmas.Fn.{always_returns_same}
use Rattle.std.proofs.lemmas.List.MinMax.{ranks_by}
use Rattle.gs_triple_lists.specs.Orders.{rank_cmp}
use Rattle.gs_triple_lists.proofs.OrderLemmas.{rank_total}
use Rattle.gs_triple_lists.proofs.orders.sort_by_rank.Goals as goal

pub returns-clause-sorted : goal.returns-clause-sorted
returns-clause-sorted c =
    let ranks = c.args.ranks.now in
    c.sort_unstable_by.ensures.sorted (λ x y. is_lt (rank_cmp ranks x y)) (ranks_by (rank_total ranks) (λ x. x))
    (always_returns_same _ (λ a r. is_lt r ≡ is_lt (rank_cmp ranks a.0.now a.1.0.now)) _ (λ a r f' k. search rules))
