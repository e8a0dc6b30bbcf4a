use Rattle.std.proofs.Common.{subst}
use Rattle.gs_model.specs.declared.refusals.Refusal.{Refusal}
use Rattle.gs_update.specs.Answers.{Refuses}
use Rattle.gs_drill.specs.Printing.{reply_text}
use Rattle.gs_drill.specs.Standing.{desk_of}
use Rattle.gs_drill.proofs.PatchLemmas.{settles_outside, settles_fault}
use Rattle.gs_drill.proofs.patches.reject.Goals as goal

pub returns-in-NotInProfile-clause-does : goal.returns-in-NotInProfile-clause-does
returns-in-NotInProfile-clause-does c = λ q refuses st.
    let P : Refusal → Type 0 = λ r. Refuses r q in
    let en = c.give_up.ensures.does st in
    (en.0, settles_outside q (desk_of st) (desk_of en.0) c.args.seat (reply_text c.give_up.result) (subst P c.in-NotInProfile.is refuses) en.1)

pub returns-in_default : goal.returns-in_default
returns-in_default c = record {
  does = λ q refuses st.
      let en = c.give_up-in_default.ensures.does st in
      (en.0, settles_fault q (desk_of st) (desk_of en.0) c.args.seat (reply_text c.give_up-in_default.result) c.args.refusal refuses c.in_default.not-NoMemory c.in_default.not-NotInProfile en.1);
  cut = c.give_up-in_default.ensures.cut;
}
