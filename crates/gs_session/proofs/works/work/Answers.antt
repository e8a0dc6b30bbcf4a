use Rattle.std.proofs.Common.{sym, subst}
use Rattle.gs_session.specs.declared.phases.Work.{Work}
use Rattle.gs_session.specs.declared.phases.Phase.TheVariants.{Serving}
use Rattle.gs_session.specs.declared.steps.Step.TheVariants.{Made}
use Rattle.gs_session.specs.Steps.{DoesStep}
use Rattle.gs_session.proofs.WorkLemmas.{commits, fails, sends, cuts_off}
use Rattle.gs_session.proofs.works.work.Goals as goal

pub returns-in-Committing : goal.returns-in-Committing
returns-in-Committing g c =
    subst (λ (k : Work). DoesStep g.D.Door.Gives c.args.setup.now c.args.ended (Serving c.args.asked k) c.args.input.now c.args.door.now (Made c.commit.result) c.args.input.now c.commit.new.door) (sym c.in-Committing.is)
    (commits g.D.Door.Gives c.args.setup.now c.args.ended c.args.asked c.args.input.now c.args.door.now c.commit.new.door c.commit.result c.commit.ensures)

pub returns-in-Failing : goal.returns-in-Failing
returns-in-Failing g c =
    subst (λ (k : Work). DoesStep g.D.Door.Gives c.args.setup.now c.args.ended (Serving c.args.asked k) c.args.input.now c.args.door.now (Made c.fail.result) c.args.input.now c.fail.new.door) (sym c.in-Failing.is)
    (fails g.D.Door.Gives c.args.setup.now c.args.ended c.args.asked c.in-Failing.want c.args.input.now c.args.door.now c.fail.new.door c.fail.result c.fail.ensures)

pub returns-in-Sending : goal.returns-in-Sending
returns-in-Sending g c =
    subst (λ (k : Work). DoesStep g.D.Door.Gives c.args.setup.now c.args.ended (Serving c.args.asked k) c.args.input.now c.args.door.now (Made c.send.result) c.args.input.now c.send.new.door) (sym c.in-Sending.is)
    (sends g.D.Door.Gives c.args.setup.now c.args.ended c.args.asked c.new.result.items c.args.input.now c.args.door.now c.send.new.door c.send.result c.new.ensures.items c.send.ensures)

pub returns-in-Cutting : goal.returns-in-Cutting
returns-in-Cutting g c =
    subst (λ (k : Work). DoesStep g.D.Door.Gives c.args.setup.now c.args.ended (Serving c.args.asked k) c.args.input.now c.args.door.now (Made c.leave.result) c.args.input.now c.leave.new.door) (sym c.in-Cutting.is)
    (cuts_off g.D.Door.Gives c.args.setup.now c.args.ended c.args.asked c.args.input.now c.args.door.now c.leave.new.door c.leave.result c.leave.ensures)
