-- Tokens, one after another.
use Rattle.std.proofs.Common.{◌≡◌, ℕ, List, [], ◌∷◌, ◌++◌, refl, sym, ap, ◌∙◌, append_assoc, append-nil}
use Rattle.std.specs.Prelude.{Some, None}
use Rattle.std.proofs.lemmas.List.{map-append}
use Rattle.gs_model.specs.declared.refusals.Refusal.{Refusal}
use Rattle.gs_model.specs.declared.refusals.Refusal.TheVariants as refusal
use Rattle.gs_model.specs.declared.faults.Fault.TheVariants as fault
use Rattle.gs_machine.specs.Machines.{joined, steps, rest}
use Rattle.gs_machine.proofs.MachineLemmas.{steps-append, steps-one, rest-append}
use Rattle.gs_lex.specs.Tokens as lexer
use Rattle.gs_lex.specs.Tokens.{Lexeme}
use Rattle.gs_triples.specs.Symbols.{symbol_of, symbols_of}
use Rattle.gs_update_text.specs.Requests.{Written, Rejection, Broken, OutOfProfile, UpdateRequest, end_of_last}
use Rattle.gs_update_text.specs.States.{UpdateState, Rejected}
use Rattle.gs_update_text.specs.Machine.{step, ended, updates}
use Rattle.gs_update_text.specs.Texts.{request_ended_by}
use Rattle.gs_update_text.proofs.UpdateLemmas.{rejected_rest}
use Rattle.gs_update_places.specs.Views.{IsSoundPlace}
use Rattle.gs_update.specs.Views.{update_state_of, operations_of}
use Rattle.gs_update.specs.Steps.{Moves}
use Rattle.gs_update.specs.Tokens.{operations_in, update_transition_of, request_end, TakesTokens, Concludes, refusal_of, ReportsAfterOperation}
use Rattle.gs_update.specs.declared.parser.UpdateParser.{UpdateParser}

-- the operations of one list after another
pub operations_in-append : (os us : List Written) → operations_in (os ++ us) ≡ operations_in os ++ operations_in us
operations_in-append os us = map-append (λ (w : Written). w.operation) os us

-- the end of the last of both
pub end_of_last-append : (n : ℕ) (os us : List Written) → end_of_last n (os ++ us) ≡ end_of_last (end_of_last n os) us
end_of_last-append n [] us = refl
end_of_last-append n (o ∷ os) us = end_of_last-append o.end os us

-- no tokens
pub takes_none : (p : UpdateParser) → IsSoundPlace p.place → TakesTokens p p []
unfolding steps
takes_none p s = record { state = refl; operations = sym (append-nil (operations_of p.operations.items)); last = refl; sound = s }

-- the state after tokens and more tokens
transition-append : (p : UpdateParser) (s : UpdateState) (ts us : List Lexeme) → s ≡ (update_transition_of p ts).0 → update_transition_of p (ts ++ us) ≡ ((steps updates s (symbols_of us)).0, (update_transition_of p ts).1 ++ (steps updates s (symbols_of us)).1)
transition-append p s ts us e =
    ap (steps updates (update_state_of p)) (map-append symbol_of ts us) ∙ steps-append updates (update_state_of p) (symbols_of ts) (symbols_of us)
    ∙ ap (λ (z : UpdateState). ((steps updates z (symbols_of us)).0, (update_transition_of p ts).1 ++ (steps updates z (symbols_of us)).1)) (sym e)

-- tokens, and then others
pub takes_then : (a b c : UpdateParser) (ts us : List Lexeme) → TakesTokens a b ts → TakesTokens b c us → TakesTokens a c (ts ++ us)
takes_then a b c ts us g h =
    let old = (update_transition_of a ts).1 in
    let more = (update_transition_of b us).1 in
    let e : update_transition_of a (ts ++ us) ≡ ((update_transition_of b us).0, old ++ more) = transition-append a (update_state_of b) ts us g.state in
    record {
      state = h.state ∙ ap (λ (z : UpdateState × List Written). z.0) (sym e);
      operations = h.operations ∙ ap (λ z. z ++ operations_in more) g.operations ∙ append_assoc (operations_of a.operations.items) (operations_in old) (operations_in more)
          ∙ ap (λ z. operations_of a.operations.items ++ z) (sym (operations_in-append old more)) ∙ ap (λ (z : UpdateState × List Written). operations_of a.operations.items ++ operations_in z.1) (sym e);
      last = h.last ∙ ap (λ z. end_of_last z more) g.last ∙ sym (end_of_last-append a.last old more) ∙ ap (λ (z : UpdateState × List Written). end_of_last a.last z.1) (sym e);
      sound = h.sound;
    }

-- one token
pub takes_one : (a b : UpdateParser) (t : Lexeme) → Moves a b (step (update_state_of a) (symbol_of t)) → TakesTokens a b (t ∷ [])
takes_one a b t m =
    let u = step (update_state_of a) (symbol_of t) in
    let e : update_transition_of a (t ∷ []) ≡ u = steps-one updates (update_state_of a) (symbol_of t) in
    record {
      state = m.state ∙ ap (λ (z : UpdateState × List Written). z.0) (sym e);
      operations = m.operations ∙ ap (λ (z : UpdateState × List Written). operations_of a.operations.items ++ operations_in z.1) (sym e);
      last = m.last ∙ ap (λ (z : UpdateState × List Written). end_of_last a.last z.1) (sym e);
      sound = m.sound;
    }

-- a departure by its refusal
reports : (r : Rejection) (last n : ℕ) (q : UpdateRequest) → q.1 ≡ Some r → n ≡ end_of_last last q.0 → ReportsAfterOperation last (refusal_of n r) q
reports (Broken fault.Syntax) last n q p e = (p, e)
reports (Broken fault.TermTooLong) last n q p e = p
reports OutOfProfile last n q p e = p

-- after a departure whatever follows says nothing more
pub rejected_reports : (a b : UpdateParser) (ts us : List Lexeme) (r : Rejection) → TakesTokens a b ts → update_state_of b ≡ Rejected r → ReportsAfterOperation a.last (refusal_of b.last r) (request_end a (ts ++ us))
rejected_reports a b ts us r h e =
    let old = (update_transition_of a ts).1 in
    let all : request_end a (ts ++ us) ≡ (old, Some r) =
    ap (rest updates (update_state_of a)) (map-append symbol_of ts us) ∙ rest-append updates (update_state_of a) (symbols_of ts) (symbols_of us)
    ∙ ap (λ (z : UpdateState). joined old (rest updates z (symbols_of us))) (sym h.state ∙ e) ∙ ap (joined old) (rejected_rest r (symbols_of us)) ∙ ap (λ z. let p : UpdateRequest = (z, Some r) in p) (append-nil old) in
    reports r a.last b.last (request_end a (ts ++ us)) (ap (λ (z : UpdateRequest). z.1) all) (h.last ∙ ap (λ (z : UpdateRequest). end_of_last a.last z.0) (sym all))

-- the text ends there
end_is : (a b : UpdateParser) (ts : List Lexeme) → TakesTokens a b ts → request_end a ts ≡ ((update_transition_of a ts).1, ended (update_state_of b))
unfolding rest
end_is a b ts h =
    let old = (update_transition_of a ts).1 in
    ap (rest updates (update_state_of a)) (sym (append-nil (symbols_of ts))) ∙ rest-append updates (update_state_of a) (symbols_of ts) []
    ∙ ap (λ (z : UpdateState). joined old (rest updates z [])) (sym h.state) ∙ ap (λ z. let p : UpdateRequest = (z, ended (update_state_of b)) in p) (append-nil old)

-- without a departure, whatever else of the parser its end changed
pub concludes : (a b c : UpdateParser) (ts : List Lexeme) → TakesTokens a b ts → None ≡ ended (update_state_of b) → c.operations ≡ b.operations → c.last ≡ b.last → Concludes a c ts
concludes a b c ts h e o l =
    let all = end_is a b ts h in
    record {
      whole = ap (λ (z : UpdateRequest). z.1) all ∙ sym e;
      operations = ap (λ z. operations_of z.items) o ∙ h.operations ∙ ap (λ (z : UpdateRequest). operations_of a.operations.items ++ operations_in z.0) (sym all);
      last = l ∙ h.last ∙ ap (λ (z : UpdateRequest). end_of_last a.last z.0) (sym all);
    }

-- with one
pub ends_rejected : (a b : UpdateParser) (n : ℕ) (ts : List Lexeme) (r : Rejection) → TakesTokens a b ts → Some r ≡ ended (update_state_of b) → n ≡ b.last → ReportsAfterOperation a.last (refusal_of n r) (request_end a ts)
ends_rejected a b n ts r h e l =
    let all = end_is a b ts h in
    reports r a.last n (request_end a ts) (ap (λ (z : UpdateRequest). z.1) all ∙ sym e) (l ∙ h.last ∙ ap (λ (z : UpdateRequest). end_of_last a.last z.0) (sym all))

-- the first departure of all is that of the tokens, where they have one
pub reports_ended : (e : Refusal) (last : ℕ) (end : lexer.CutEnd) (q : UpdateRequest) → ReportsAfterOperation last e q → ReportsAfterOperation last e (request_ended_by end q)
reports_ended e last lexer.AtEnd q h = h
reports_ended e last (lexer.AtFault n) (os, Some f) h = h
reports_ended (refusal.Syntax at) last (lexer.AtFault n) (os, None) h = absurd (Prim.cc (h.0))
reports_ended refusal.TermTooLong last (lexer.AtFault n) (os, None) h = absurd (Prim.cc h)
reports_ended refusal.NotInProfile last (lexer.AtFault n) (os, None) h = absurd (Prim.cc h)
reports_ended refusal.NoMemory last (lexer.AtFault n) (os, None) h = h
reports_ended refusal.WrongPhase last (lexer.AtFault n) (os, None) h = h
reports_ended refusal.BadSeat last (lexer.AtFault n) (os, None) h = h
reports_ended refusal.LastNumber last (lexer.AtFault n) (os, None) h = h
reports_ended refusal.StoreFull last (lexer.AtFault n) (os, None) h = h
reports_ended refusal.Closed last (lexer.AtFault n) (os, None) h = h

-- and else that after them
pub reports_broken : (last m n : ℕ) (q : UpdateRequest) → q.1 ≡ None → m ≡ end_of_last last q.0 → ReportsAfterOperation last (refusal.Syntax m) (request_ended_by (lexer.AtFault n) q)
reports_broken last m n (os, None) p e = (refl, e)
reports_broken last m n (os, Some f) p e = absurd (Prim.cc p)
