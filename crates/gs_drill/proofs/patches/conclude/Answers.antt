use Rattle.std.proofs.Common.{Result, Vec, Global, subst}
use Rattle.std.proofs.lemmas.Result.{IfOk-weaker}
use Rattle.gs_event.specs.declared.updates.Op.{Op}
use Rattle.gs_model.specs.declared.refusals.Refusal.{Refusal}
use Rattle.gs_update.specs.Answers.{Answers as ReadsUpdate}
use Rattle.gs_drill.specs.Standing.{desk_of}
use Rattle.gs_drill.proofs.PatchLemmas.{settles_whole}
use Rattle.gs_drill.proofs.patches.conclude.Goals as goal

pub returns-in-Ok-clause-does : goal.returns-in-Ok-clause-does
returns-in-Ok-clause-does c = λ q reads st.
    let P : Result (Vec Op Global) Refusal → Type 0 = λ r. ReadsUpdate r q in
    let en = c.answer.ensures.does st in
    (en.0, settles_whole q (desk_of st) (desk_of en.0) c.args.seat c.in-Ok.operations c.answer.result (subst P c.in-Ok.is reads) en.1)

pub returns-in-Err-clause-does : goal.returns-in-Err-clause-does
returns-in-Err-clause-does c =
    IfOk-weaker c.reject.result _ _
    (λ reply does q reads.
    let P : Result (Vec Op Global) Refusal → Type 0 = λ r. ReadsUpdate r q in
    does q (subst P c.in-Err.is reads))
    c.reject.ensures.does
