use Rattle.std.proofs.Common.{sym, subst, ◌∙◌}
use Rattle.std.proofs.lemmas.Result.{IfOk-weaker}
use Rattle.gs_update_places.specs.Steps.{Turned, moved_turn, block_turn}
use Rattle.gs_update_places.proofs.TurnLemmas.{free_step, stopped_step, barred_step}
use Rattle.gs_update_places.proofs.blocks.Block.step.Goals as goal

pub returns-then-not-bars-clause-turn : goal.returns-then-not-bars-clause-turn
returns-then-not-bars-clause-turn g c =
    let l = g.L.Language.language in
    let a = c.args.self.now in
    let b = c.moved.new.self in
    IfOk-weaker c.moved.result (λ u. Turned l b u (moved_turn l a c.args.symbol)) (λ u. Turned l b u (block_turn l a c.args.symbol))
    (λ u. free_step l a b c.args.symbol u (sym c.if-not-bars.true ∙ c.bars.ensures)) c.moved.ensures.turn

pub returns-in-Stops-clause-turn : goal.returns-in-Stops-clause-turn
returns-in-Stops-clause-turn g c =
    let l = g.L.Language.language in
    let a = c.args.self.now in
    stopped_step l a c.moved-2.new.self c.moved-2.new.self c.args.symbol c.in-Stops.rejection (sym c.if-not-bars.false ∙ c.bars.ensures)
    (subst (λ u. Turned l c.moved-2.new.self u (moved_turn l a c.args.symbol)) c.in-Stops.is c.in_ok-turn.ensures.turn)

pub returns-in_default-clause-turn : goal.returns-in_default-clause-turn
returns-in_default-clause-turn g c =
    let l = g.L.Language.language in
    barred_step l c.args.self.now c.moved-2.new.self c.moved-2.new.self c.args.symbol c.in_ok-turn.turn (sym c.if-not-bars.false ∙ c.bars.ensures) c.in_default.not-Stops c.in_ok-turn.ensures.turn
