use Rattle.std.proofs.Common.{◌≡◌, refl, subst}
use Rattle.std.proofs.lemmas.Result.{IfOk-weaker}
use Rattle.gs_triples.specs.Machine as machine
use Rattle.gs_triple_values.specs.Views.{symbol_at}
use Rattle.gs_triple_parser.specs.Views.{triples_state, triples_turn, pending_triples}
use Rattle.gs_update_places.specs.Steps.{Turned, StaysUnless, opening_turn, followed_turn, moved_turn}
use Rattle.gs_update_places.proofs.BlockLemmas.{entered_stays, followed_stays, taken_keeps, over_keeps}
use Rattle.gs_update_places.proofs.TurnLemmas.{opening_moved, taken_moved, over_moved}
use Rattle.gs_update_places.proofs.blocks.Block.moved.Goals as goal

pub returns-then-not-self-clause-turn : goal.returns-then-not-self-clause-turn
returns-then-not-self-clause-turn g c =
    let l = g.L.Language.language in
    let a = c.args.self.now in
    let b = c.at_triples.new.self in
    IfOk-weaker c.at_triples.result (λ u. Turned l b u (opening_turn l a c.args.symbol)) (λ u. Turned l b u (moved_turn l a c.args.symbol)) (λ u. opening_moved l a b c.args.symbol u c.if-not-self.true)
    c.at_triples.ensures.turn

pub returns-in-Taken-clause-turn : goal.returns-in-Taken-clause-turn
returns-in-Taken-clause-turn g c =
    let l = g.L.Language.language in
    let a = c.args.self.now in
    let took = subst (λ u. triples_turn l c.step.new.self u ≡ machine.step (triples_state l a.parser) (symbol_at c.args.symbol)) c.in-Taken.is c.in_ok-step.ensures in
    taken_moved l a (record a { parser = c.step.new.self }) c.entered.new.self c.args.symbol c.entered.result c.if-not-self.false took refl refl c.entered.ensures.turn

pub returns-in-Taken-clause-stays : goal.returns-in-Taken-clause-stays
returns-in-Taken-clause-stays g c =
    let l = g.L.Language.language in
    let a = c.args.self.now in
    let took = subst (λ u. triples_turn l c.step.new.self u ≡ machine.step (triples_state l a.parser) (symbol_at c.args.symbol)) c.in-Taken.is c.in_ok-step.ensures in
    entered_stays l a (record a { parser = c.step.new.self }) c.entered.new.self c.entered.result c.entered.ensures.goes_on refl refl c.entered.ensures.parser c.entered.ensures.bounds c.requires
    (taken_keeps l a.parser c.step.new.self (symbol_at c.args.symbol) took)

pub returns-in-Over-clause-turn : goal.returns-in-Over-clause-turn
returns-in-Over-clause-turn g c =
    let l = g.L.Language.language in
    let a = c.args.self.now in
    let over = subst (λ u. triples_turn l c.step.new.self u ≡ machine.step (triples_state l a.parser) (symbol_at c.args.symbol)) c.in-Over.is c.in_ok-step.ensures in
    IfOk-weaker c.followed.result (λ u. Turned l c.followed.new.self u (followed_turn l (record a { parser = c.step.new.self }) c.args.symbol)) (λ u. Turned l c.followed.new.self u (moved_turn l a c.args.symbol))
    (λ u. over_moved l a (record a { parser = c.step.new.self }) c.followed.new.self c.args.symbol u c.if-not-self.false over refl refl) c.followed.ensures.turn

pub returns-in-Over-clause-stays : goal.returns-in-Over-clause-stays
returns-in-Over-clause-stays g c =
    let l = g.L.Language.language in
    let a = c.args.self.now in
    let over = subst (λ u. triples_turn l c.step.new.self u ≡ machine.step (triples_state l a.parser) (symbol_at c.args.symbol)) c.in-Over.is c.in_ok-step.ensures in
    IfOk-weaker c.followed.result (λ u. Turned l c.followed.new.self u (followed_turn l (record a { parser = c.step.new.self }) c.args.symbol)) (StaysUnless l a c.followed.new.self)
    (λ u _. followed_stays l a (record a { parser = c.step.new.self }) c.followed.new.self u refl refl c.followed.ensures.bounds c.followed.ensures.context c.followed.ensures.numbers c.requires
    (over_keeps l a.parser c.step.new.self (symbol_at c.args.symbol) (pending_triples l c.step.new.self) over)) c.followed.ensures.turn
