-- How far a token is read.
use Rattle.std.specs.Prelude.{◌≡◌, ◌≢◌, ℕ, ◌+◌, ◌-◌, ◌≤◌, max, ◌⊎◌, Bool, MatchBool, true, false, List, [], ◌++◌, length, drop, Option, Some, None, encode_utf8_all}
use Rattle.std.specs.Str.{IsUtf8, all_scalars}
use Rattle.gs_automaton.specs.Automata.{Found, run, run_from, kind_at, longest}
use Rattle.gs_automaton.specs.States.{tokens, accepts, start_of}
use Rattle.gs_automaton.specs.Symbols.{IsShort}
use Rattle.gs_automaton.specs.declared.terminals.Terminal.{Terminal}
use Rattle.gs_automaton.specs.declared.terminals.Terminal.TheVariants as kind
use Rattle.gs_automaton.specs.declared.states.State.{State}
use Rattle.gs_automaton.specs.declared.states.State.TheVariants as at
use Rattle.gs_automaton.specs.declared.scans.Scan.{Scan}

-- the token of n bytes that ends here, if one does, and else the best one before
abbrev pub best_after : Option Terminal → ℕ → Option Terminal × ℕ → Option Terminal × ℕ
best_after None n b = b
best_after (Some k) n b = (Some k, n)

-- a character of n bytes more
abbrev pub onward_of : Scan → State → ℕ → Scan
onward_of s p n = let b = best_after (accepts p) (s.len + n) (s.best, s.best_len) in record { state = p; len = s.len + n; best = b.0; best_len = b.1 }

-- a scan that has read nothing
abbrev pub fresh : Bool → Scan
fresh updates = record { state = start_of updates; len = 0; best = None; best_len = 0 }

-- the longest token so far, by its terminal and its bytes
abbrev pub IsBest : Found Terminal ℕ → Option Terminal → ℕ → Type 0
IsBest None k n = k ≡ None
IsBest (Some t) k n = (k ≡ Some t.0) × (n ≡ length (encode_utf8_all t.1))

-- these characters at the front of x led to where the scan stands
pub record IsScanned (updates : Bool) (x : List ℕ) (s : Scan) : Type 0 where
  pub chars : List ℕ
  pub after : List ℕ
  pub parts : x ≡ encode_utf8_all chars ++ after
  pub count : s.len ≡ length (encode_utf8_all chars)
  pub characters : all_scalars chars ≡ true
  pub stands : run (tokens updates) chars ≡ Some s.state
  pub is_best : IsBest (longest (tokens updates) chars) s.best s.best_len

-- at the end of a text nothing follows
abbrev pub MayFollow : Bool → List ℕ → Type 0
MayFollow is_end y = is_end ≡ true → y ≡ []

-- What the text x may become: it goes on; or, where it does not end yet, its last character, of which not all bytes are
-- there, turns out to be another. What is decided of x holds of all of these.
pub data MayBecome (is_end : Bool) (x z : List ℕ) : Type 0 where
  goes_on : (y : List ℕ) → MayFollow is_end y → z ≡ x ++ y → MayBecome is_end x z
  recut : (front short y : List ℕ) → is_end ≡ false → x ≡ front ++ short → IsUtf8 front → IsShort short → z ≡ front ++ y → MayBecome is_end x z

-- from this state, the automaton finds no token in z
abbrev pub IsBarren : Bool → State → List ℕ → Type 0
IsBarren updates q z = (t : Terminal) (v s : List ℕ) → z ≡ encode_utf8_all v ++ s → all_scalars v ≡ true → v ≢ [] → kind_at (tokens updates) (run_from (tokens updates) (Some q) v) ≡ Some t → ⊥

-- after each of the first characters of x, which are n bytes, a word's dots lead to no token, whatever x becomes
abbrev pub IsBarrenTo : Bool → Bool → List ℕ → ℕ → Type 0
IsBarrenTo is_end updates x n = (text v z : List ℕ) → MayBecome is_end x text → text ≡ encode_utf8_all v ++ z → all_scalars v ≡ true → v ≢ [] → length (encode_utf8_all v) ≤ n → IsBarren updates at.WordDots z

-- what is scanned of x stays scanned
abbrev pub StaysScanned : List ℕ → Scan → Scan → Type 0
StaysScanned x from to = (updates : Bool) → IsScanned updates x from → IsScanned updates x to

-- no character goes on with a token
abbrev pub IsEnded : State → Type 0
IsEnded q = (t : Terminal) × (q ≡ at.Ended t)

-- some character may
abbrev pub IsOpen : State → Type 0
IsOpen q = (t : Terminal) → q ≢ at.Ended t

-- no longer token comes: whatever the text x becomes, if that is known, and if not, in x alone
abbrev pub FindsNoMore : Bool → Bool → List ℕ → Scan → Bool → Type 0
FindsNoMore is_end updates x s is_known =
    MatchBool is_known ((z : List ℕ) → MayBecome is_end (drop s.len x) z → IsBarren updates s.state z) (IsBarren updates s.state (drop s.len x))

-- from a scan on, where so much is barren, the text was read as far as a longer token may come
abbrev pub IsReadOn : List ℕ → Scan → ℕ → Scan × Bool → Type 0
IsReadOn x from barren r =
    (is_end updates : Bool) → IsScanned updates x from → IsBarrenTo is_end updates x barren → FindsNoMore is_end updates x r.0 r.1

-- so many bytes are barren after the longest token: those that were, without the token's; or after a word all that were read
abbrev pub IsBarrenAfter : ℕ → Scan → Terminal → ℕ → Type 0
IsBarrenAfter barren s t n =
    (n ≡ barren - s.best_len) ⊎ ((t ≡ kind.Word) × (n ≡ max (s.len - s.best_len) (barren - s.best_len)))
