use Rattle.std.proofs.Common.{ℕ, List, refl, sym, subst}
use Rattle.std.proofs.lemmas.Bool.{eq-eqb}
use Rattle.gs_world.specs.declared.steps.WorldStep.{WorldStep}
use Rattle.gs_world.specs.Walks.{Apart, Gets, ChangesOne, Walks, RefusesStep}
use Rattle.gs_world.proofs.CallLemmas.{on_ok, on_err}
use Rattle.gs_world.proofs.worlds.World.step.Goals as goal

pub returns-in-Bytes-clause-ok : goal.returns-in-Bytes-clause-ok
returns-in-Bytes-clause-ok c =
    on_ok c.give.result
    (λ walk. subst (λ (step : WorldStep). Walks c.args.self.now step c.give.new.self) (sym c.in-Bytes.is)
    (subst (λ (b : List ℕ). ChangesOne c.in-Bytes.connection c.args.self.now c.give.new.self (Apart (Gets b))) c.as_slice.ensures.value walk))
    c.give.ensures.ok

pub returns-in-Bytes-clause-err : goal.returns-in-Bytes-clause-err
returns-in-Bytes-clause-err c =
    on_err c.give.result
    (λ g. (
      c.in-Bytes.connection,
      subst (λ (step : WorldStep). RefusesStep c.in-Bytes.connection c.args.self.now step c.give.new.self) (sym c.in-Bytes.is) (eq-eqb c.in-Bytes.connection c.in-Bytes.connection refl, g),
    ))
    c.give.ensures.err

pub returns-in-Turn-clause-err : goal.returns-in-Turn-clause-err
returns-in-Turn-clause-err c =
    on_err c.turn.result
    (λ g. (
      c.in-Turn.connection,
      subst (λ (step : WorldStep). RefusesStep c.in-Turn.connection c.args.self.now step c.turn.new.self) (sym c.in-Turn.is) (eq-eqb c.in-Turn.connection c.in-Turn.connection refl, g),
    ))
    c.turn.ensures.err
