use Rattle.std.proofs.Common.{ℕ, List, refl, sym, subst}
use Rattle.gs_transfer.specs.Views.{Parts}
use Rattle.gs_transfer.specs.declared.transfers.Part.TheVariants as part
use Rattle.gs_session.specs.declared.phases.Phase.TheVariants.{Serving}
use Rattle.gs_session.specs.declared.phases.Work.TheVariants.{Uploading}
use Rattle.gs_session.specs.declared.steps.Step.TheVariants.{Silent}
use Rattle.gs_session.specs.Steps.{Rests}
use Rattle.gs_session.proofs.UploadStepLemmas.{passed_on, transfer_faulty, input_ended}
use Rattle.gs_session.proofs.uploads.upload.Goals as goal

pub returns-in-Passed : goal.returns-in-Passed
returns-in-Passed g c =
    let n = c.in-Passed.count in
    let parts = subst (λ (z : List ℕ). Parts c.args.transfer c.next.new.self z (part.Passed n)) c.as_slice.ensures c.in-Passed.ensures in (
      refl,
      subst (λ (z : List ℕ). Rests c.args.setup.now c.args.ended (Serving c.args.asked (Uploading c.args.reading c.args.transfer)) c.args.input.now (Silent c.silently.result) z) (sym c.skip.ensures)
          (passed_on c.args.setup.now c.args.ended c.args.asked c.args.reading c.args.transfer c.next.new.self c.args.input.now n c.silently.result parts.0 parts.1 parts.2 c.silently.ensures),
    )

pub returns-in-Fault : goal.returns-in-Fault
returns-in-Fault g c =
    let faulty = subst (λ (z : List ℕ). Parts c.args.transfer c.next.new.self z (part.Fault c.in-Fault.status)) c.as_slice.ensures c.in-Fault.ensures in
    transfer_faulty g.D.Door.Gives c.args.setup.now c.args.ended c.args.asked c.args.reading c.args.transfer c.args.input.now c.in-Fault.status c.args.door.now c.cancel.new.door c.cancel.result faulty c.cancel.ensures

pub returns-then-ended : goal.returns-then-ended
returns-then-ended g c =
    let parts = subst (λ (z : List ℕ). Parts c.args.transfer c.next.new.self z part.More) c.as_slice.ensures c.in-More.ensures in
    input_ended g.D.Door.Gives c.args.setup.now c.args.ended c.args.asked c.args.reading c.args.transfer c.args.input.now c.args.door.now c.leave.new.door c.leave.result c.if-ended.true parts.2 c.leave.ensures
