use Rattle.std.proofs.Common.{◌≢◌, sym, ◌∙◌, slice_index_or, None}
use Rattle.gs_reclaim.proofs.Following.{pins_apart, goes_whole, follows_pin}
use Rattle.gs_reclaim.proofs.holders.follow_pin.Goals as goal

pub returns-in-None : goal.returns-in-None
returns-in-None c =
    let ne : slice_index_or c.args.pool.now.pins c.args.list None ≢ c.pin_at-pin.result = λ e. pins_apart _ _ (sym c.eq.ensures ∙ c.if-eq.false) (c.pin_at.ensures.pin ∙ e) in
    let whole = rw c.in-None.is at c.holder_of.ensures in
    follows_pin c.args.pool.now c.follow.new.self c.args.versions.now c.args.list c.pin_at-pin.result c.requires c.pin_at-pin.ensures c.follow.ensures.nodes c.follow.ensures.marks c.follow.ensures.spare c.follow.ensures.limit c.follow.ensures.pins c.follow.ensures.loose c.follow.ensures.held (goes_whole c.args.pool.now c.args.versions.now c.args.list c.pin_at-pin.result ne whole)
