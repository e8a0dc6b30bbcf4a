-- Runs of characters of ASCII that only go on with a token, a comment or the blanks between tokens.
use Rattle.std.specs.Prelude.{◌≡◌, ℕ, ◌<◌, List, [], ◌∷◌}
use Rattle.gs_ntread.specs.States.{LineState, no_triple}
use Rattle.gs_ntread.specs.Transitions.{transition}

-- one more than the last character of ASCII
abbrev pub ascii_end : ℕ
ascii_end = 128

-- These characters of ASCII lead from a state to a state, and complete nothing, wherever they stand.
pub data RunsTo : LineState → List ℕ → LineState → Type 0 where
  stays : (q : LineState) → RunsTo q [] q
  goes : (q r s : LineState) (b : ℕ) (bs : List ℕ) → b < ascii_end → ((n : ℕ) → transition q.0 q.1 b n ≡ no_triple r) → RunsTo r bs s → RunsTo q (b ∷ bs) s
