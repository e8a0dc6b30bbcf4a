-- A prefix of a token, read straight on over bytes of ASCII.
use Rattle.std.specs.Prelude.{◌≡◌, ℕ, ◌≤◌, ◌<◌, Bool, true, ◌==◌, ◌||◌, List, length, drop, get_or, Some, None}
use Rattle.gs_model.specs.Characters.{underscore}
use Rattle.gs_model.specs.Punctuation.{left_parenthesis, right_parenthesis, comma, semicolon}
use Rattle.gs_automaton.specs.Classes.{is_ws, is_alphanumeric}
use Rattle.gs_automaton.specs.Scans.{MayBecome, IsBarren, StaysScanned}
use Rattle.gs_automaton.specs.States.{state_after, start_of}
use Rattle.gs_automaton.specs.declared.states.State.{State}
use Rattle.gs_automaton.specs.declared.scans.Scan.{Scan}

-- white space, and the punctuation that stands after most names and numbers
abbrev pub is_stop : ℕ → Bool
is_stop c = is_ws c || c == semicolon || c == comma || c == left_parenthesis || c == right_parenthesis

-- a letter, a digit or an underscore: a local name begins with it
abbrev pub is_plain_start : ℕ → Bool
is_plain_start c = is_alphanumeric c || c == underscore

-- no token goes on so from this state
abbrev pub EndsAtStop : State → Type 0
EndsAtStop q = (c : ℕ) → is_stop c ≡ true → state_after q c ≡ None

-- a token begins here
abbrev pub IsAtStart : State → Type 0
IsAtStart q = (updates : Bool) × (q ≡ start_of updates)

-- no longer token comes, whatever the text x becomes
abbrev pub IsLastToken : List ℕ → Scan → Type 0
IsLastToken x s = (is_end updates : Bool) (z : List ℕ) → MayBecome is_end (drop s.len x) z → IsBarren updates s.state z

-- after the byte that comes next in x, which is of ASCII, the automaton stands there
pub record LeadsOn (x : List ℕ) (s : Scan) (p : State) : Type 0 where
  pub within : s.len < length x
  pub low : get_or x s.len 0 < 128
  pub goes : state_after s.state (get_or x s.len 0) ≡ Some p

-- a scan went on in the text x
pub record ScanGoesOn (x : List ℕ) (from to : Scan) : Type 0 where
  pub onward : from.len ≤ to.len
  pub within : to.len ≤ length x
  pub best_within : to.best_len ≤ to.len
  pub scanned : StaysScanned x from to

-- and, where the second part says so, no longer token comes
pub record GoesOver (x : List ℕ) (from : Scan) (r : Scan × Bool) : Type 0 where
  pub went : ScanGoesOn x from r.0
  pub last : r.1 ≡ true → IsLastToken x r.0
