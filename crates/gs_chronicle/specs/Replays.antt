-- How a page replays: from the state of the abstract store before its first row to that after its last.
use Rattle.std.specs.Prelude.{◌≡◌, ℕ, List, [], ◌∷◌}
use Rattle.gs_event.specs.Operations.{Setting}
use Rattle.gs_event.specs.Conditions.{State, state_from, after_if, status_if}
use Rattle.gs_chronicle.specs.Pages.{Decided, Row, PageView, page_after}

-- the state after these rows, the first one first
abbrev pub after_rows : Setting → State → List Row → State
after_rows w m [] = m
after_rows w m (r ∷ rs) = after_rows w (after_if w m r.call.asked) rs

-- each row's status is the abstract store's on the state after the rows before it
abbrev pub HaveStatuses : Setting → State → List Row → Type 0
HaveStatuses w m [] = Unit {0}
HaveStatuses w m (r ∷ rs) = (r.call.status ≡ status_if w m r.call.asked) × HaveStatuses w (after_if w m r.call.asked) rs

-- From some state, each row's status is the abstract store's on the state after the rows before it, and the last
-- state is this one. On page 0 the first one is that of a store that begins after so many commits.
pub record Replays (w : Setting) (start : ℕ) (p : PageView) (last : State) : Type 0 where
  pub first : State
  pub begins : p.number ≡ 0 → first ≡ state_from start
  pub statuses : HaveStatuses w first p.rows
  pub ends : after_rows w first p.rows ≡ last

-- a page that replays to m, with one more call that has the abstract store's status on m, replays to the state after it
abbrev pub ReplaysOn : Setting → (start most_rows most_triples : ℕ) → PageView → State → Decided → Type 0
ReplaysOn w start most_rows most_triples p m d =
    Replays w start p m → d.status ≡ status_if w m d.asked → Replays w start (page_after most_rows most_triples p d) (after_if w m d.asked)
