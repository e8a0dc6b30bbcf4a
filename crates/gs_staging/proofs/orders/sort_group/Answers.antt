use Rattle.std.specs.Ordering.{is_lt}
use Rattle.std.proofs.Common.{◌≡◌, ◌∙◌, ◌-◌, length, rules, arith}
use Rattle.std.proofs.lemmas.Fn.{always_returns_same}
use Rattle.std.proofs.lemmas.List.MinMax.{ranks_by}
use Rattle.std.proofs.lemmas.List.Sorted.{IsPermutation-put_mid}
use Rattle.gs_keys.specs.Texts.{key_cmp, key_total}
use Rattle.gs_staging.specs.Groups.{is_before}
use Rattle.gs_staging.proofs.GroupLemmas.{put_below, sorted_in_place}
use borrow.Rule.Slice.PartMut.{mid_len}
use Rattle.gs_staging.proofs.orders.sort_group.Goals as goal

pub returns-clause-permutation : goal.returns-clause-permutation
returns-clause-permutation c = search (rules, IsPermutation-put_mid)

pub returns-clause-sorted : goal.returns-clause-sorted
returns-clause-sorted c =
    let terms = c.args.order.now.dict.now.terms in
    let ks = c.args.keys.now in
    let ys = c.sort_unstable_by.new.self in
    let long : length ys ≡ c.args.end - c.args.from = c.sort_unstable_by.ensures.len ∙ mid_len c.args.from c.args.end ks c.requires.within in
    let up = c.sort_unstable_by.ensures.sorted (λ x y. is_lt (key_cmp terms x y)) (ranks_by (key_total terms) (λ x. x)) (always_returns_same _ (λ a r. is_lt r ≡ is_lt (key_cmp terms a.0.now a.1.0.now)) _ (λ a r f' k. search rules)) in
    record {
      sorted = sorted_in_place (is_before terms) ks ys c.args.from c.args.end (omega (arith, c.requires.some)) c.requires.within long up;
      below = λ k d low. put_below c.args.from (c.args.end - c.args.from) ks ys k d low (omega (arith, c.requires.some, c.requires.within));
    }
