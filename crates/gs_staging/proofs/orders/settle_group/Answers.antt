use Rattle.std.proofs.Common.{◌∙◌, ◌-◌, ◌≤◌, sym, subst, arith}
use Rattle.std.proofs.lemmas.List.Sorted.{IsPermutation-trans, IsPermutation-put_mid, length_permutation}
use Rattle.gs_staging.specs.Groups.{is_before}
use Rattle.gs_staging.proofs.GroupLemmas.{kept_below, turned_moves, turned_places, settled}
use borrow.Rule.Slice.PartMut.{mid_of, mid_len}
use Rattle.gs_staging.proofs.orders.settle_group.Goals as goal

pub returns-clause-permutation : goal.returns-clause-permutation
returns-clause-permutation c =
    let place = c.place_among-place.result in
    let part = mid_of place (c.args.end - place) c.sort_group.new.keys in
    IsPermutation-trans _ _ _ c.sort_group.ensures.permutation (IsPermutation-put_mid place (c.args.end - place) c.sort_group.new.keys c.turn.new.keys (turned_moves part c.turn.new.keys (c.args.from - place) c.turn.ensures))

pub returns-clause-sorted : goal.returns-clause-sorted
returns-clause-sorted c = λ _ up.
    let before = is_before c.args.order.now.dict.now.terms in
    let ks = c.sort_group.new.keys in
    let ys = c.turn.new.keys in
    let place = c.place_among-place.result in
    let part = mid_of place (c.args.end - place) ks in
    let within = subst (λ n. c.args.end ≤ n) (sym (length_permutation c.args.keys.now ks c.sort_group.ensures.permutation)) c.requires.within in
    let mid = mid_len place c.args.end ks within in
    let turned = turned_places part ys (c.args.from - place) (c.args.end - place) (c.args.end - c.args.from) c.turn.ensures mid (omega (arith, c.place_among-place.ensures, c.requires.some)) in
    settled before ks ys place c.args.from c.args.end c.place_among-place.ensures c.requires.some within
    (length_permutation part ys (turned_moves part ys (c.args.from - place) c.turn.ensures) ∙ mid) turned
    (kept_below before c.args.keys.now ks c.args.from c.sort_group.ensures.sorted.below up) c.sort_group.ensures.sorted.sorted
    (c.may_follow-2.ensures c.if-not-may_follow.false) (λ d _. c.may_precede.ensures c.if-not-may_precede.false d)
