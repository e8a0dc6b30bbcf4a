-- What is staged is the list as it came.
use Rattle.std.proofs.Common.{subst}
use Rattle.gs_event.specs.declared.events.Action.TheVariants as act
use Rattle.gs_session.specs.Outcomes.{AfterStage}
use Rattle.gs_session.specs.Steps.{Does}
use Rattle.gs_session.proofs.uploads.stage.Goals as goal

pub returns : goal.returns
returns g c =
    subst (λ ts. Does g.D.Door.Gives c.args.setup.now.seat c.args.door.now (act.Stage ts) c.act-answer.new.door (λ answer. AfterStage c.args.asked c.args.work answer c.after_stage.result))
    c.put_in_order.ensures
    (c.act-answer.result, c.act-answer.ensures, c.after_stage.ensures)
