-- What tokens do to a parser of updates.
use Rattle.std.specs.Prelude.{◌≡◌, ℕ, List, ◌++◌, map, Some, None}
use Rattle.gs_model.specs.declared.faults.Fault.TheVariants as fault
use Rattle.gs_model.specs.declared.refusals.Refusal.{Refusal}
use Rattle.gs_model.specs.declared.refusals.Refusal.TheVariants as refusal
use Rattle.gs_machine.specs.Machines.{steps, rest}
use Rattle.gs_lex.specs.Tokens.{Lexeme}
use Rattle.gs_triples.specs.Symbols.{symbols_of}
use Rattle.gs_update_text.specs.Requests.{UpdateOperation, Written, Rejection, Broken, OutOfProfile, UpdateRequest, end_of_last}
use Rattle.gs_update_text.specs.States.{UpdateState}
use Rattle.gs_update_text.specs.Machine.{updates}
use Rattle.gs_update_places.specs.Views.{IsSoundPlace}
use Rattle.gs_update.specs.Views.{update_state_of, operations_of}
use Rattle.gs_update.specs.declared.parser.UpdateParser.{UpdateParser}

-- the operations of some that are written
abbrev pub operations_in : List Written → List UpdateOperation
operations_in os = map (λ (w : Written). w.operation) os

-- the state after some tokens, and the operations that they end
abbrev pub update_transition_of : UpdateParser → List Lexeme → UpdateState × List Written
update_transition_of p ts = steps updates (update_state_of p) (symbols_of ts)

-- what the last tokens of a text say
abbrev pub request_end : UpdateParser → List Lexeme → UpdateRequest
request_end p ts = rest updates (update_state_of p) (symbols_of ts)

-- the parser took these tokens
pub record TakesTokens (old new : UpdateParser) (ts : List Lexeme) : Type 0 where
  pub state : update_state_of new ≡ (update_transition_of old ts).0
  pub operations : operations_of new.operations.items ≡ operations_of old.operations.items ++ operations_in (update_transition_of old ts).1
  pub last : new.last ≡ end_of_last old.last (update_transition_of old ts).1
  pub sound : IsSoundPlace new.place

-- the text ends after these tokens without a departure
pub record Concludes (old new : UpdateParser) (ts : List Lexeme) : Type 0 where
  pub whole : (request_end old ts).1 ≡ None
  pub operations : operations_of new.operations.items ≡ operations_of old.operations.items ++ operations_in (request_end old ts).0
  pub last : new.last ≡ end_of_last old.last (request_end old ts).0

-- the refusal that reports a departure, where the last operation ends after so many bytes
abbrev pub refusal_of : ℕ → Rejection → Refusal
refusal_of last (Broken fault.Syntax) = refusal.Syntax last
refusal_of last (Broken fault.TermTooLong) = refusal.TermTooLong
refusal_of last OutOfProfile = refusal.NotInProfile

-- what a refusal reports of the rest of a text, where the last operation before it ends after so many bytes
abbrev pub ReportsAfterOperation : ℕ → Refusal → UpdateRequest → Type 0
ReportsAfterOperation last (refusal.Syntax at) q = (q.1 ≡ Some (Broken fault.Syntax)) × (at ≡ end_of_last last q.0)
ReportsAfterOperation last refusal.TermTooLong q = q.1 ≡ Some (Broken fault.TermTooLong)
ReportsAfterOperation last refusal.NotInProfile q = q.1 ≡ Some OutOfProfile
ReportsAfterOperation last refusal.NoMemory q = Unit {0}
ReportsAfterOperation last other q = ⊥
