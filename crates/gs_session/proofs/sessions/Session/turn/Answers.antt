use Rattle.std.proofs.Common.{◌==◌, subst, sym, ap, ◌∙◌}
use Rattle.gs_session.specs.declared.phases.Phase.{Phase}
use Rattle.gs_session.specs.declared.steps.Step.TheVariants.{Made}
use Rattle.gs_session.specs.declared.sessions.Session.{Session}
use Rattle.gs_session.specs.declared.sessions.Turn.TheVariants as turn
use Rattle.gs_session.specs.Steps.{DoesStep}
use Rattle.gs_session.specs.Turns.{MakesTurn}
use Rattle.gs_session.proofs.TurnLemmas.{no_text, turn_made, turn_waits}
use Rattle.gs_session.proofs.sessions.Session.turn.Goals as goal

pub returns-in-Made-clause-turns : goal.returns-in-Made-clause-turns
returns-in-Made-clause-turns g c =
    subst (λ (s : Session). MakesTurn g.D.Door.Gives c.args.self.now c.args.door.now turn.Made s c.step.new.door) (sym c.take-in-Made.ensures)
    (turn_made g.D.Door.Gives c.args.self.now c.loop-self.self c.args.door.now c.loop-self.door c.step.new.door c.in-Made.next c.step.new.input c.loop-self.invariant.kept c.loop-self.invariant.setup
    c.loop-self.invariant.door (no_text c.loop-self.self.due.items c.is_empty.result (c.is_empty.ensures ∙ ap (λ n. n == 0) c.loop-self.self.due.ok.0) c.loop-self-test.true)
    (subst (λ (p : Phase). DoesStep g.D.Door.Gives c.loop-self.self.setup c.loop-self.self.ended p c.loop-self.self.input c.loop-self.door (Made c.in-Made.next) c.step.new.input c.step.new.door) c.replace-phase.ensures.value c.in-Made.ensures))

pub returns-in-Wait-clause-rests : goal.returns-in-Wait-clause-rests
returns-in-Wait-clause-rests g c =
    turn_waits c.loop-self.self c.step.new.input c.in-Wait.phase c.wait.result c.wait.new.self (no_text c.loop-self.self.due.items c.is_empty.result (c.is_empty.ensures ∙ ap (λ n. n == 0) c.loop-self.self.due.ok.0) c.loop-self-test.true) c.in-Wait.ensures.1.0 c.wait.ensures.state c.wait.ensures.told
