-- What the machine reads of a request, beside the rules.
use Rattle.std.specs.Prelude.{◌≡◌, ◌↔◌, ℕ, List, Some, None}
use Rattle.gs_lex.specs.Tokens.{Lexeme}
use Rattle.gs_update_text.specs.Requests.{OutOfProfile, Written, IsBrokenUpdate}
use Rattle.gs_update_text.specs.Grammar.{IsUpdate}
use Rattle.gs_update_text.specs.Profile.{LeavesProfile}
use Rattle.gs_update_text.specs.Fronts.{AreOperationsBeforeFault, last_brace}
use Rattle.gs_update_text.specs.Machine.{request_of}

-- the machine finds exactly the updates that the rules give
abbrev pub FindsUpdates : List ℕ → ℕ → List Lexeme → Type 0
FindsUpdates b r ts = (os : List Written) → (IsUpdate b r ts os ↔ (request_of b r ts ≡ (os, None)))

-- the rules give these tokens at most one list of operations
abbrev pub HasOneReading : List ℕ → ℕ → List Lexeme → Type 0
HasOneReading b r ts = (os us : List Written) → IsUpdate b r ts os → IsUpdate b r ts us → os ≡ us

-- the machine refuses as out of the profile exactly the tokens that leave what is served, after the operations before
abbrev pub RefusesDepartures : List ℕ → ℕ → List Lexeme → Type 0
RefusesDepartures b r ts = (os : List Written) → (LeavesProfile b r ts os ↔ (request_of b r ts ≡ (os, Some OutOfProfile)))

-- these are no update
abbrev pub KeepsApart : List ℕ → ℕ → List Lexeme → Type 0
KeepsApart b r ts = (os us : List Written) → IsUpdate b r ts os → LeavesProfile b r ts us → ⊥

-- it says the operations of the longest prefix that is an update, those before a departure too
abbrev pub SaysLongest : List ℕ → ℕ → List Lexeme → Type 0
SaysLongest b r ts = AreOperationsBeforeFault b r ts (request_of b r ts).0

-- a broken text's fault is placed where the last closing brace of that prefix ends, or at 0
abbrev pub PlacesUpdateFault : List ℕ → ℕ → List Lexeme → Type 0
PlacesUpdateFault b r ts =
    (at : ℕ) → IsBrokenUpdate (request_of b r ts) at → (f : AreOperationsBeforeFault b r ts (request_of b r ts).0) → at ≡ last_brace 0 f.front
