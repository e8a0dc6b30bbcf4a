use Rattle.std.proofs.Common.{refl}
use Rattle.gs_update_text.specs.Requests.{OutOfProfile}
use Rattle.gs_session.proofs.PatchLemmas.{order_steps, reject_steps, broken_steps, order_fails}
use Rattle.gs_session.proofs.patches.finish.Goals as goal

pub returns-in-Ok : goal.returns-in-Ok
returns-in-Ok g c = λ e b t v is over.
    order_steps g.D.Door.Gives c.args.setup.now e c.args.asked c.args.request v t c.args.body.now b c.in-Ok.operations c.args.door.now c.commit.new.door c.commit.result c.text_base-base.result.now
    is over c.text_base-base.ensures.value c.in-Ok.ensures c.commit.ensures

pub returns-in-NoMemory : goal.returns-in-NoMemory
returns-in-NoMemory g c = λ e b t v is over. order_fails g.D.Door.Gives c.args.setup.now e c.args.asked c.args.request v t b c.args.door.now c.silently.result c.silently.ensures

pub returns-in-NotInProfile : goal.returns-in-NotInProfile
returns-in-NotInProfile g c = λ e b t v is over.
    reject_steps g.D.Door.Gives c.args.setup.now e c.args.asked c.args.request v t c.args.body.now b OutOfProfile 422 c.args.door.now c.cancel.new.door c.cancel.result c.text_base-base.result.now
    is over c.text_base-base.ensures.value (rw c.in-NotInProfile.is at c.in-Err.ensures) refl c.cancel.ensures

pub returns-in_default : goal.returns-in_default
returns-in_default g c = λ e b t v is over.
    broken_steps g.D.Door.Gives c.args.setup.now e c.args.asked c.args.request v t c.args.body.now b c.in-Err.refusal c.args.door.now c.cancel-in_default.new.door c.cancel-in_default.result c.text_base-base.result.now
    is over c.text_base-base.ensures.value c.in-Err.ensures c.in_default.not-NoMemory c.in_default.not-NotInProfile c.cancel-in_default.ensures
