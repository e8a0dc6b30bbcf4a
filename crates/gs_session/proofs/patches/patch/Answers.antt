use Rattle.std.proofs.Common.{[], sym, append-nil}
use Rattle.gs_session.specs.declared.phases.Work.TheVariants.{Patching}
use Rattle.gs_session.specs.declared.phases.Phase.TheVariants.{Serving}
use Rattle.gs_session.specs.declared.steps.Step.TheVariants.{Silent}
use Rattle.gs_session.proofs.PatchLemmas.{rests_steps, keep_rests, patch_fault, patch_ends}
use Rattle.gs_session.proofs.patches.patch.Goals as goal

pub returns-in-Data : goal.returns-in-Data
returns-in-Data g c =
    let is = rw c.as_slice.ensures at c.in-Data.ensures in
    rests_steps g.D.Door.Gives c.args.setup.now c.args.ended (Serving c.args.asked (Patching c.args.request c.args.body c.args.transfer)) c.args.input.now c.keep.new.input c.args.door.now c.keep.result
    (c.keep.ensures c.args.ended c.args.transfer is.0 is.2)

pub returns-in-Passed : goal.returns-in-Passed
returns-in-Passed g c =
    let is = rw c.as_slice.ensures at c.in-Passed.ensures in
    rests_steps g.D.Door.Gives c.args.setup.now c.args.ended (Serving c.args.asked (Patching c.args.request c.args.body c.args.transfer)) c.args.input.now c.skip.new.self c.args.door.now (Silent c.silently.result)
    (keep_rests c.args.setup.now c.args.ended c.args.asked c.args.request c.args.body c.args.body c.args.transfer c.next.new.self [] c.args.input.now c.skip.new.self c.in-Passed.count c.silently.result
    is.0 is.1 is.2 (sym (append-nil c.args.body.items)) c.silently.ensures c.skip.ensures)

pub returns-in-Fault : goal.returns-in-Fault
returns-in-Fault g c =
    patch_fault g.D.Door.Gives c.args.setup.now c.args.ended c.args.asked c.args.request c.args.body c.args.transfer c.args.input.now c.in-Fault.status c.args.door.now c.cancel.new.door c.cancel.result
    (rw c.as_slice.ensures at c.in-Fault.ensures) c.cancel.ensures

pub returns-then-ended : goal.returns-then-ended
returns-then-ended g c =
    patch_ends g.D.Door.Gives c.args.setup.now c.args.ended c.args.asked c.args.request c.args.body c.args.transfer c.args.input.now c.args.door.now c.leave.new.door c.leave.result
    c.if-ended.true (rw c.as_slice.ensures at c.in-More.ensures.2) c.leave.ensures
