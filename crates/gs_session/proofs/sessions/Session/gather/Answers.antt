use Rattle.std.proofs.Common.{subst, sym, ap, ◌∙◌}
use Rattle.gs_event.specs.declared.events.Action.TheVariants.{Piece}
use Rattle.gs_session.specs.declared.phases.Phase.TheVariants.{Serving}
use Rattle.gs_session.specs.declared.phases.Work.{Work}
use Rattle.gs_session.specs.declared.sessions.Session.{Session}
use Rattle.gs_session.specs.declared.sessions.Turn.TheVariants as turn
use Rattle.gs_session.specs.Outcomes.{AfterPiece}
use Rattle.gs_session.specs.Steps.{Does}
use Rattle.gs_session.specs.Turns.{MakesTurn}
use Rattle.gs_session.proofs.TurnLemmas.{turn_gathers}
use Rattle.gs_session.proofs.sessions.Session.gather.Goals as goal

pub returns-in-Serving-default-Sending-clause-turns : goal.returns-in-Serving-default-Sending-clause-turns
returns-in-Serving-default-Sending-clause-turns g c =
    let a = c.in-Serving-default-Sending.asked in
    λ e. subst (λ (s : Session). MakesTurn g.D.Door.Gives c.args.self.now c.args.door.now turn.Made s c.send-next.new.door) (sym c.take.ensures)
    (turn_gathers g.D.Door.Gives c.args.self.now c.args.door.now c.send-next.new.door a c.send-next.result
    (sym c.replace.ensures.value ∙ c.in-Serving-default-Sending.is ∙ ap (λ (k : Work). Serving a k) c.in-Serving-default-Sending.field-1-is)
    (subst (λ due. Does g.D.Door.Gives c.args.self.now.setup.seat c.args.door.now (Piece c.args.self.now.setup.piece) c.send-next.new.door (λ answer. AfterPiece a due.items answer c.send-next.result)) c.replace-due.ensures.value c.send-next.ensures))
