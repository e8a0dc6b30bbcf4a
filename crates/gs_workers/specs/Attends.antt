-- What one connection makes of a door, and what many make of it.
use Rattle.std.specs.Prelude.{◌≡◌, ℕ, zero, suc, List, Option, ◌⊎◌}
use Rattle.gs_event.specs.declared.events.Event.{Event}
use Rattle.gs_event.specs.declared.answers.Answer.{Answer}
use Rattle.gs_talk.specs.Logs.{Server}
use Rattle.gs_session.specs.Connections.{Connection, IsFinished, Quit}

-- A connection: all that is to be said was written, or a prefix of it, and what is open was cancelled.
abbrev pub Attends : {D : Type 0} → Server → (D → Event → Answer → D → Type 0) → ℕ → (unread left held holds : Option (List ℕ)) → (old new : D) → Type 0
Attends p gives seat unread left held holds old new =
    Connection gives seat unread left held holds old new (IsFinished p left) ⊎ Connection gives seat unread left held holds old new (Quit p left)

-- the same, over some reader and some writer
abbrev pub ServesOne : {D : Type 0} → Server → (D → Event → Answer → D → Type 0) → ℕ → (old new : D) → Type 0
ServesOne p gives seat old new =
    (unread left held holds : Option (List ℕ)) × Attends p gives seat unread left held holds old new

-- so many connections, one after the other
abbrev pub ServesMany : {D : Type 0} → Server → (D → Event → Answer → D → Type 0) → ℕ → ℕ → (old new : D) → Type 0
ServesMany p gives seat zero old new = new ≡ old
ServesMany {D} p gives seat (suc n) old new = (mid : D) × ServesMany p gives seat n old mid × ServesOne p gives seat mid new
