use Rattle.std.proofs.Common.{subst, ℕ, List}
use Rattle.gs_transfer.specs.Views.{Parts}
use Rattle.gs_session.proofs.SkipLemmas.{skip_next, skip_fault, skip_stops}
use Rattle.gs_session.proofs.bodies.skip.Goals as goal

pub returns-in-Fault : goal.returns-in-Fault
returns-in-Fault g c =
    skip_fault g.D.Door.Gives c.args.setup.now c.args.ended c.args.asked c.args.transfer c.args.input.now c.in-Fault.status c.args.door.now c.reply.result (rw c.as_slice.ensures at c.in-Fault.ensures) c.reply.ensures

pub returns-then-ended : goal.returns-then-ended
returns-then-ended g c =
    skip_stops g.D.Door.Gives c.args.setup.now c.args.ended c.args.asked c.args.transfer c.args.input.now c.args.door.now c.stop.result c.if-ended.true (rw c.as_slice.ensures at c.in-More.ensures.2) c.stop.ensures

pub returns-in-Data : goal.returns-in-Data
returns-in-Data g c =
    skip_next g.D.Door.Gives c.args.setup.now c.args.ended c.args.asked c.args.transfer c.next.new.self c.args.input.now c.skip.new.self c.in-Data.count c.next.result c.args.door.now c.silently.result
    (subst (λ (b : List ℕ). Parts c.args.transfer c.next.new.self b c.next.result) c.as_slice.ensures c.next.ensures) c.in-Data.is c.silently.ensures c.skip.ensures
