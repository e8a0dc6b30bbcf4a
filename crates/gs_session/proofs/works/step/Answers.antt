use Rattle.std.proofs.Common.{sym, subst}
use Rattle.gs_session.specs.declared.phases.Phase.{Phase}
use Rattle.gs_session.specs.declared.phases.Phase.TheVariants.{Between}
use Rattle.gs_session.specs.Steps.{DoesStep}
use Rattle.gs_session.proofs.WorkLemmas.{still}
use Rattle.gs_session.proofs.works.step.Goals as goal

pub returns-in-Between : goal.returns-in-Between
returns-in-Between g c =
    subst (λ (p : Phase). DoesStep g.D.Door.Gives c.args.setup.now c.args.ended p c.args.input.now c.args.door.now c.next_head.result c.next_head.new.input c.args.door.now) (sym c.in-Between.is)
    (still g.D.Door.Gives c.args.setup.now c.args.ended Between c.args.input.now c.next_head.new.input c.args.door.now c.next_head.result (c.next_head.ensures c.args.ended))
