use Rattle.std.proofs.Common.{subst, arith}
use Rattle.gs_reclaim.specs.Holders.{FollowsPin}
use Rattle.gs_reclaim.proofs.Following.{none_let_go, stale_kept, stale_falls, all_agree}
use Rattle.gs_reclaim.proofs.holders.follow_pins.Goals as goal

pub loop-list-smaller-then-follow_pin : goal.loop-list-smaller-then-follow_pin
loop-list-smaller-then-follow_pin c =
    omega (arith, stale_kept c.loop-list.pool c.follow_pin.new.pool c.args.versions.now c.loop-list.list c.follow_pin.result c.follow_pin.ensures, c.follow_pin.ensures.many, c.loop-list-test.true, c.lists.ensures)

pub loop-list-smaller : goal.loop-list-smaller
loop-list-smaller c =
    omega (arith, stale_falls c.loop-list.pool c.follow_pin.new.pool c.args.versions.now c.loop-list.list (subst (FollowsPin c.args.versions.now c.loop-list.pool c.follow_pin.new.pool c.loop-list.list) c.if-follow_pin.false c.follow_pin.ensures), c.follow_pin.ensures.many)

pub returns-clause-loose : goal.returns-clause-loose
returns-clause-loose c =
    let agrees = all_agree c.loop-list.pool c.args.versions.now c.loop-list.list c.loop-list.invariant.follow (omega (arith, c.loop-list-test.false, c.lists.ensures)) in
    omega (arith, c.loop-list.invariant.loose, none_let_go c.loop-list.pool c.args.versions.now agrees)
