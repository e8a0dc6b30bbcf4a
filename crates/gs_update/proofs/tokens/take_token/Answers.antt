use Rattle.std.proofs.Common.{[], ◌∷◌, sym, subst}
use Rattle.gs_model.specs.declared.refusals.Refusal.{Refusal}
use Rattle.gs_lex.specs.Lexemes.{lexeme_of_borrowed}
use Rattle.gs_triples.specs.Symbols.{Symbol}
use Rattle.gs_update_text.specs.Machine.{step}
use Rattle.gs_update_places.specs.Views.{rejection_at}
use Rattle.gs_update.specs.Views.{update_state_of}
use Rattle.gs_update.specs.Steps.{Moves}
use Rattle.gs_update.specs.Tokens.{request_end, ReportsAfterOperation}
use Rattle.gs_update.proofs.TokenLemmas.{takes_one, rejected_reports}
use Rattle.gs_update.proofs.tokens.take_token.Goals as goal

pub returns-in-None-clause-ok : goal.returns-in-None-clause-ok
returns-in-None-clause-ok c =
    let a = c.args.parser.now in
    let b = c.step.new.self in
    takes_one a b (lexeme_of_borrowed c.args.token) (subst (λ (s : Symbol). Moves a b (step (update_state_of a) s)) c.symbol_of_borrowed.ensures c.in_ok-step.ensures)

pub returns-in-Some-clause-fault : goal.returns-in-Some-clause-fault
returns-in-Some-clause-fault c = λ us.
    let a = c.args.parser.now in
    let b = c.step.new.self in
    let t = lexeme_of_borrowed c.args.token in
    let takes = takes_one a b t (subst (λ (s : Symbol). Moves a b (step (update_state_of a) s)) c.symbol_of_borrowed.ensures c.in_ok-step.ensures) in
    subst (λ (r : Refusal). ReportsAfterOperation a.last r (request_end a (t ∷ us))) (sym c.refusal.ensures)
    (rejected_reports a b (t ∷ []) us (rejection_at c.in-Some.rejection) takes c.in-Some.ensures.some)
