use Rattle.std.proofs.Common.{◌≢◌, sym, ◌∙◌, subst, ◌<◌, length, slice_index_or, None}
use Rattle.gs_pool.proofs.FollowLemmas.{same_pin}
use Rattle.gs_reclaim.proofs.Following.{holder_apart, pins_apart, goes_none, follows_pin, follows_hand, follows_exchange}
use Rattle.gs_reclaim.proofs.holders.pass_on.Goals as goal

pub hand_over-requires-clause-apart : goal.hand_over-requires-clause-apart
hand_over-requires-clause-apart c = holder_apart c.args.pool.now c.args.versions.now c.args.list c.args.other c.requires.holder c.requires.stale

pub hand_over-requires-clause-same : goal.hand_over-requires-clause-same
hand_over-requires-clause-same c = sym (sym c.pin_at.ensures.pin ∙ same_pin _ _ (sym c.eq.ensures ∙ c.if-eq.true) ∙ c.pin_at-2.ensures.pin)

pub returns-then-eq : goal.returns-then-eq
returns-then-eq c =
    let same = sym c.pin_at.ensures.pin ∙ same_pin _ _ (sym c.eq.ensures ∙ c.if-eq.true) ∙ c.pin_at-2.ensures.pin in
    let lt = subst (λ pins. c.args.list < length pins) (sym c.hand_over.ensures.pins) c.requires.list in
    let p1 = c.hand_over.new.self in
    follows_hand c.args.pool.now p1 c.follow.new.self c.args.versions.now c.args.list c.args.other c.requires.holder same c.hand_over.ensures.nodes c.hand_over.ensures.marks c.hand_over.ensures.spare c.hand_over.ensures.limit c.hand_over.ensures.loose c.hand_over.ensures.pins c.hand_over.ensures.held
    (follows_pin p1 c.follow.new.self c.args.versions.now c.args.list c.pin_at-then-eq.result lt c.pin_at-then-eq.ensures c.follow.ensures.nodes c.follow.ensures.marks c.follow.ensures.spare c.follow.ensures.limit c.follow.ensures.pins c.follow.ensures.loose c.follow.ensures.held (goes_none p1 c.args.versions.now c.args.list c.pin_at-then-eq.result c.hand_over.ensures.held.emptied))

pub exchange-requires-clause-apart : goal.exchange-requires-clause-apart
exchange-requires-clause-apart c = holder_apart c.args.pool.now c.args.versions.now c.args.list c.args.other c.requires.holder c.requires.stale

pub returns : goal.returns
returns c =
    let differ : slice_index_or c.args.pool.now.pins c.args.other None ≢ slice_index_or c.args.pool.now.pins c.args.list None = λ e. pins_apart _ _ (sym c.eq.ensures ∙ c.if-eq.false) (c.pin_at.ensures.pin ∙ e ∙ sym c.pin_at-2.ensures.pin) in
    follows_exchange c.args.pool.now c.exchange.new.self c.args.versions.now c.args.list c.args.other c.requires.list c.requires.holder c.requires.stale differ c.exchange.ensures.nodes c.exchange.ensures.marks c.exchange.ensures.spare c.exchange.ensures.limit c.exchange.ensures.loose c.exchange.ensures.lists
