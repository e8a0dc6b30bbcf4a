use Rattle.std.specs.Ordering.{is_lt}
use Rattle.std.proofs.Common.{◌≡◌, rules}
use Rattle.std.proofs.lemmas.Fn.{always_returns_same}
use Rattle.std.proofs.lemmas.List.MinMax.{ranks_by}
use Rattle.std.proofs.lemmas.List.Sorted.{IsPermutation-trans}
use Rattle.gs_keys.specs.Texts.{key_cmp, key_total}
use Rattle.gs_staging.proofs.orders.sort.Goals as goal

pub returns-clause-permutation : goal.returns-clause-permutation
returns-clause-permutation c = IsPermutation-trans _ _ _ c.sort_groups.ensures.permutation c.sort_unstable_by.ensures.permutation

pub returns-clause-sorted : goal.returns-clause-sorted
returns-clause-sorted c =
    let terms = c.args.order.now.dict.now.terms in
    c.sort_unstable_by.ensures.sorted (λ x y. is_lt (key_cmp terms x y)) (ranks_by (key_total terms) (λ x. x))
    (always_returns_same _ (λ a r. is_lt r ≡ is_lt (key_cmp terms a.0.now a.1.0.now)) _ (λ a r f' k. search rules))
