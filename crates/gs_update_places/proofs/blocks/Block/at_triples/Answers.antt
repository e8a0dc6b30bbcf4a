use Rattle.std.proofs.Common.{refl, sym, subst}
use Rattle.gs_triple_values.specs.Views.{symbol_at}
use Rattle.gs_update_places.specs.Steps.{Turned, opening_turn}
use Rattle.gs_update_places.proofs.BlockLemmas.{nothing_stays, entered_stays, opened_keeps}
use Rattle.gs_update_places.proofs.TurnLemmas.{entered_opening}
use Rattle.gs_update_places.proofs.blocks.Block.at_triples.Goals as goal

pub returns-in-Foreign-clause-turn : goal.returns-in-Foreign-clause-turn
returns-in-Foreign-clause-turn g c =
    let l = g.L.Language.language in
    let a = c.args.self.now in
    subst (λ t. Turned l a c.at_foreign.result (opening_turn l a t)) (sym c.in-Foreign.is) c.at_foreign.ensures

pub returns-in-Foreign-clause-stays : goal.returns-in-Foreign-clause-stays
returns-in-Foreign-clause-stays g c = nothing_stays g.L.Language.language c.args.self.now c.at_foreign.result c.requires

pub returns-in_ok-open-in_default-clause-turn : goal.returns-in_ok-open-in_default-clause-turn
returns-in_ok-open-in_default-clause-turn g c =
    let a = c.args.self.now in
    entered_opening g.L.Language.language a (record a { parser = c.open.new.self }) c.entered.new.self c.args.symbol c.entered.result c.in_default.not-Foreign
    c.in_ok-open-in_default.ensures refl refl c.entered.ensures.turn

pub returns-in_ok-open-in_default-clause-stays : goal.returns-in_ok-open-in_default-clause-stays
returns-in_ok-open-in_default-clause-stays g c =
    let l = g.L.Language.language in
    let a = c.args.self.now in
    entered_stays l a (record a { parser = c.open.new.self }) c.entered.new.self c.entered.result c.entered.ensures.goes_on refl refl c.entered.ensures.parser c.entered.ensures.bounds c.requires
    (opened_keeps l a.parser c.open.new.self (symbol_at c.args.symbol) c.in_ok-open-in_default.ensures)
