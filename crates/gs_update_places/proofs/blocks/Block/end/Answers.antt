use Rattle.std.proofs.Common.{◌≡◌, true, false, sym, ◌∙◌, subst}
use Rattle.gs_triples.specs.Symbols.{Foreign}
use Rattle.gs_lex.specs.declared.kinds.TokenKind.TheVariants as kind
use Rattle.gs_triples.specs.Machine as machine
use Rattle.gs_triple_parser.specs.Views.{triples_state, triples_turn, context_now, numbers_now, pending_triples}
use Rattle.gs_update_places.proofs.TurnLemmas.{end_between, end_unfinished, end_lost, end_over}
use Rattle.gs_update_places.proofs.blocks.Block.end.Goals as goal

pub returns-then-not-self : goal.returns-then-not-self
returns-then-not-self g c = λ made. end_between g.L.Language.language c.args.self.now made c.if-not-self.true

pub returns-in-None : goal.returns-in-None
returns-in-None g c = λ made.
    let l = g.L.Language.language in
    let a = c.args.self.now in
    let took = subst (λ u. triples_turn l c.step.new.self u ≡ machine.step (triples_state l a.parser) (Foreign kind.CloseBrace 0)) c.in-Taken.is c.in_ok-step.ensures in
    end_unfinished l a (triples_state l c.step.new.self) made c.if-not-self.false took c.in-None.ensures.none

pub returns-in-Some : goal.returns-in-Some
returns-in-Some g c = λ made.
    let l = g.L.Language.language in
    let a = c.args.self.now in
    let took = subst (λ u. triples_turn l c.step.new.self u ≡ machine.step (triples_state l a.parser) (Foreign kind.CloseBrace 0)) c.in-Taken.is c.in_ok-step.ensures in
    end_lost l a (triples_state l c.step.new.self) made c.in-Some.fault c.if-not-self.false took c.in-Some.ensures.some

pub returns-then-many : goal.returns-then-many
returns-then-many g c = λ made.
    let l = g.L.Language.language in
    let a = c.args.self.now in
    let p = c.step.new.self in
    let over = subst (λ u. triples_turn l p u ≡ machine.step (triples_state l a.parser) (Foreign kind.CloseBrace 0)) c.in-Over.is c.in_ok-step.ensures in
    end_over l a (context_now l p) (pending_triples l p) (numbers_now p) true made c.if-not-self.false over (sym c.if-many.true ∙ c.in_ok-many-in-Over.ensures.many)

pub returns-else-many : goal.returns-else-many
returns-else-many g c = λ made.
    let l = g.L.Language.language in
    let a = c.args.self.now in
    let p = c.step.new.self in
    let over = subst (λ u. triples_turn l p u ≡ machine.step (triples_state l a.parser) (Foreign kind.CloseBrace 0)) c.in-Over.is c.in_ok-step.ensures in
    end_over l a (context_now l p) (pending_triples l p) (numbers_now p) false made c.if-not-self.false over (sym c.if-many.false ∙ c.in_ok-many-in-Over.ensures.many)
