use Rattle.std.proofs.Common.{List, [], ◌∷◌, ◌++◌, take, sym, ap, subst, ◌∙◌}
use Rattle.std.proofs.lemmas.List.{take_more, take_all}
use Rattle.gs_world.specs.declared.steps.WorldStep.{WorldStep}
use Rattle.gs_world.specs.Walks.{WalksAll}
use Rattle.gs_world.proofs.CallLemmas.{got}
use Rattle.gs_world.proofs.RunLemmas.{walks_more, walks_run, cut_run}
use Rattle.gs_world.proofs.worlds.World.run.Goals as goal

pub returns-in-Err-clause-err : goal.returns-in-Err-clause-err
returns-in-Err-clause-err c =
    cut_run c.args.self.now c.loop-step.self c.step.new.self c.args.steps.now c.loop-step.step-index c.step-item.result c.loop-step.invariant
    (got c.args.steps.now c.loop-step.step-index c.step-item.result c.loop-step-test.true c.step-item.is) c.in-Err.ensures.err

pub loop-step-preserved : goal.loop-step-preserved
loop-step-preserved c =
    subst (λ (steps : List WorldStep). WalksAll c.args.self.now steps c.step.new.self)
    (sym (take_more c.args.steps.now c.loop-step.step-index c.step-item.result c.loop-step-test.true ∙ ap (λ (step : WorldStep). take c.loop-step.step-index c.args.steps.now ++ step ∷ []) (sym c.step-item.is)))
    (walks_more c.args.self.now c.loop-step.self c.step.new.self (take c.loop-step.step-index c.args.steps.now) c.step-item.result c.loop-step.invariant c.in-Ok.ensures.ok)

pub returns-clause-ok : goal.returns-clause-ok
returns-clause-ok c =
    walks_run c.args.self.now c.loop-step.self c.args.steps.now
    (subst (λ (steps : List WorldStep). WalksAll c.args.self.now steps c.loop-step.self) (take_all c.loop-step.step-index c.args.steps.now c.loop-step-test.false) c.loop-step.invariant)
