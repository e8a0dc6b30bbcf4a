-- What a session has said and done, and what a turn adds to that.
use Rattle.std.specs.Prelude.{◌≡◌, ◌≢◌, ℕ, Bool, true, false, cond, List, [], ◌∷◌, ◌++◌, ◌⊎◌}
use Rattle.gs_event.specs.declared.events.Event.{Event}
use Rattle.gs_event.specs.declared.events.Action.{Action}
use Rattle.gs_event.specs.declared.events.Action.TheVariants.{Cancel}
use Rattle.gs_event.specs.declared.answers.Answer.{Answer}
use Rattle.gs_talk.specs.Seats.{Deeds}
use Rattle.gs_talk.specs.Closings.{SaysAll, SaysLast, SaysFront}
use Rattle.gs_talk.specs.Laws.{AreOfKind, IsIdle}
use Rattle.gs_session.specs.declared.phases.Work.{Work}
use Rattle.gs_session.specs.declared.phases.Work.TheVariants.{Opening, Skipping}
use Rattle.gs_session.specs.declared.phases.Phase.{Phase}
use Rattle.gs_session.specs.declared.phases.Phase.TheVariants as phase
use Rattle.gs_session.specs.declared.setups.Setup.{Setup}
use Rattle.gs_session.specs.declared.sessions.Session.{Session}
use Rattle.gs_session.specs.declared.sessions.Turn.{Turn}
use Rattle.gs_session.specs.declared.sessions.Turn.TheVariants.{NeedInput, Made, Output, Over}
use Rattle.gs_session.specs.declared.outcomes.Next.{Next}
use Rattle.gs_session.specs.Leads.{LeadsTo, MayCome}
use Rattle.gs_session.specs.Steps.{TakesAction, server_of}

-- what stays the same for all requests of a session: its seat, the base of its store, the lines a piece, and its allocator
abbrev pub setup_of : Session → Setup
setup_of s = s.setup

-- the seat of a session
abbrev pub seat_of : Session → ℕ
seat_of s = (setup_of s).seat

-- the input of a session has ended
abbrev pub is_input_ended : Session → Bool
is_input_ended s = s.ended

-- what a session has said and is due to be written
abbrev pub bytes_due : Session → List ℕ
bytes_due s = s.due.items

-- a session is over: it does nothing more, but for what is due to be written
abbrev pub IsSessionOver : Session → Type 0
IsSessionOver s = s.phase ≡ phase.Over

-- The bytes x that came, what was done for them, and what was written, lead to this session. What is due was said and not
-- written yet.
abbrev pub Leads : Session → List ℕ → Deeds → List ℕ → Type 0
Leads s x h w = LeadsTo (server_of (setup_of s)) (is_input_ended s) s.phase s.input x h (w ++ bytes_due s)

-- each such history leads to the other session
abbrev pub IsKept : Session → Session → Type 0
IsKept old new = (x : List ℕ) (h : Deeds) (w : List ℕ) → Leads old x h w → Leads new x h w

-- the door is as it was, and each such history leads to the session after a turn that shows nothing
abbrev pub StaysSo : {D : Type 0} → Session → D → Session → D → Type 0
StaysSo {D} s old next new = (new ≡ old) × IsKept s next

-- A turn: one event of the session's seat, a text that is not empty, or nothing. Each history that led to the session leads,
-- with that more, to the session after it.
abbrev pub MakesTurn : {D : Type 0} → (D → Event → Answer → D → Type 0) → Session → D → Turn → Session → D → Type 0
MakesTurn {D} gives s old Made next new = (action : Action) × (answer : Answer) × TakesAction gives (seat_of s) old action answer new
    × ((x : List ℕ) (h : Deeds) (w : List ℕ) → Leads s x h w → Leads next x (h ++ (action, answer) ∷ []) w)
MakesTurn {D} gives s old (Output b) next new = (new ≡ old) × (b.items ≢ []) × ((x : List ℕ) (h : Deeds) (w : List ℕ) → Leads s x h w → Leads next x h (w ++ b.items))
MakesTurn {D} gives s old turn next new = StaysSo s old next new

-- where more input is wanted, it may come, and all that is to be said was written
abbrev pub AwaitsInput : Session → Type 0
AwaitsInput s = (is_input_ended s ≡ false) × ((x : List ℕ) (h : Deeds) (w : List ℕ) → Leads s x h w → SaysAll (server_of (setup_of s)) false x h w)

-- where the connection has ended, all that is to be said was written, and no request is left
abbrev pub HasEnded : Session → Type 0
HasEnded s = (x : List ℕ) (h : Deeds) (w : List ℕ) → Leads s x h w → SaysLast (server_of (setup_of s)) (is_input_ended s) x h w

-- what waits or has ended does so rightly
abbrev pub RestsRightly : Turn → Session → Type 0
RestsRightly NeedInput s = AwaitsInput s
RestsRightly Over s = HasEnded s
RestsRightly turn s = Unit {0}

-- these bytes came, unless the input had ended
abbrev pub joined_input : Bool → List ℕ → List ℕ → List ℕ
joined_input ended x piece = cond ended x (x ++ piece)

-- what a turn tells that showed nothing
abbrev pub turn_at : Phase → Bool → Turn
turn_at phase.Over ended = Over
turn_at p ended = cond ended Over NeedInput

-- what a step leads to comes next
abbrev pub taken : Session → Next → Session
taken s n = record { setup = s.setup; input = s.input; ended = s.ended; due = n.said; phase = n.phase }

-- nothing comes next, in this phase
abbrev pub waiting : Session → Phase → Session
waiting s p = record { setup = s.setup; input = s.input; ended = s.ended; due = s.due; phase = p }

-- the door took these actions of a seat one after another, and gave these answers
abbrev pub Ran : {D : Type 0} → (D → Event → Answer → D → Type 0) → ℕ → D → Deeds → D → Type 0
Ran {D} gives seat old [] new = new ≡ old
Ran {D} gives seat old (d ∷ ds) new = (mid : D) × TakesAction gives seat old d.0 d.1 mid × Ran gives seat mid ds new

-- something is open at the store
abbrev pub has_opened : Work → Bool
has_opened Opening = false
has_opened (Skipping t) = false
has_opened k = true

-- nothing, or one Cancel
abbrev pub CancelsOnce : Deeds → Type 0
CancelsOnce ds = (ds ≡ []) ⊎ ((answer : Answer) × (ds ≡ (Cancel, answer) ∷ []))

-- The connection is given up. With what was cancelled, each history that led to the session was a conversation up to here, also
-- where more bytes had come that it never took; and the seat is idle, unless an answer did not fit.
abbrev pub Quits : {D : Type 0} → (D → Event → Answer → D → Type 0) → Session → D → D → Type 0
Quits {D} gives s old new = (ds : Deeds) × CancelsOnce ds × Ran gives (seat_of s) old ds new
    × ((x : List ℕ) (h : Deeds) (w y : List ℕ) → Leads s x h w → MayCome (is_input_ended s) y
    → SaysFront (server_of (setup_of s)) (is_input_ended s) (x ++ y) (h ++ ds) w × (AreOfKind (seat_of s) (h ++ ds) → IsIdle (h ++ ds)))
