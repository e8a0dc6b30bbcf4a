-- A connection on its way: what each round of `serve` leaves it.
use Rattle.std.specs.Prelude.{◌≡◌, ℕ, true, List, ◌++◌, Option}
use Rattle.std.specs.Io.KnownBytes.{Consumes, IsAtEnd}
use Rattle.gs_event.specs.declared.events.Event.{Event}
use Rattle.gs_event.specs.declared.answers.Answer.{Answer}
use Rattle.gs_talk.specs.Seats.{Deeds}
use Rattle.gs_talk.specs.Logs.{Server}
use Rattle.gs_session.specs.declared.sessions.Session.{Session}
use Rattle.gs_session.specs.Steps.{server_of}
use Rattle.gs_session.specs.Turns.{setup_of, seat_of, is_input_ended, Leads}
use Rattle.gs_session.specs.Connections.{Connection}

-- it goes on in this session, whose input has ended only where the reader is at its end
abbrev pub Goes : Server → ℕ → Session → Option (List ℕ) → List ℕ → Deeds → List ℕ → Type 0
Goes p seat s left x h w = Leads s x h w × (is_input_ended s ≡ true → IsAtEnd left) × (server_of (setup_of s) ≡ p) × (seat_of s ≡ seat)

-- Each connection that went on in session s, with this left to read, this written and this door, is now one of which Holds is true,
-- with the next three; whatever its server and its seat are, and wherever it began.
abbrev pub Comes : {D : Type 0} → (D → Event → Answer → D → Type 0) → Session
    → Option (List ℕ) → Option (List ℕ) → D → Option (List ℕ) → Option (List ℕ) → D
    → (Server → ℕ → List ℕ → Deeds → List ℕ → Type 0) → Type 0
Comes {D} gives s left holds old left2 holds2 new Holds =
    (p : Server) (seat : ℕ) (first : D) (unread held : Option (List ℕ))
    → Connection gives seat unread left held holds first old (Goes p seat s left)
    → Connection gives seat unread left2 held holds2 first new (Holds p seat)

-- the session took what was read
abbrev pub ReadsInput : Session → Session → Option (List ℕ) → Option (List ℕ) → Type 0
ReadsInput s s2 unread left = (setup_of s2 ≡ setup_of s) × (is_input_ended s2 ≡ true → IsAtEnd left)
    × ((x : List ℕ) (h : Deeds) (w : List ℕ) → Leads s x h w → (more : List ℕ) × Consumes unread left more × Leads s2 (x ++ more) h w)

-- it did not, and is as it was
abbrev pub Loses : Session → Session → Option (List ℕ) → Option (List ℕ) → Type 0
Loses s s2 unread left = (s2 ≡ s) × ((more : List ℕ) × Consumes unread left more)
