-- What is proved of a conversation at a store, and of what is written at any moment.
use Rattle.std.specs.Prelude.{◌≡◌, ◌≤◌, ℕ, Bool, List, map, Some}
use Rattle.std.specs.List.{slice_get}
use Rattle.gs_event.specs.declared.events.Event.TheVariants.{Seat}
use Rattle.gs_event.specs.Phases.{Idle}
use Rattle.gs_event.specs.Waste.{Shown}
use Rattle.gs_event.specs.Steps.{Steps}
use Rattle.gs_event.specs.Histories.{Start, History, IsLegal, HasRun, view_of, pinned_of}
use Rattle.gs_stream.specs.Requests.{Request}
use Rattle.gs_talk.specs.Seats.{Deeds}
use Rattle.gs_talk.specs.Logs.{Server, Talk}
use Rattle.gs_talk.specs.Closings.{SaysFront}
use Rattle.gs_talk.specs.Laws.{HasMisfit, IsIdle}
use Rattle.gs_session.specs.declared.sessions.Session.{Session}
use Rattle.gs_session.specs.Steps.{server_of}
use Rattle.gs_session.specs.Turns.{setup_of, is_input_ended, Leads, Ran}

-- the store shows the seat as idle
abbrev pub IsIdleAt : ℕ → Shown → Type 0
IsIdleAt seat shown = slice_get shown.view.seats seat ≡ Some Idle

-- In a conversation that begins at an idle seat, and that alone takes steps of the store meanwhile, the store never answers that the
-- phase is wrong or that there is no such seat, where a piece has one line at least.
abbrev pub StoresFit : Type 0
StoresFit = (p : Server) (ended : Bool) (seat : ℕ) (first last : Shown) (x : List ℕ) (h : Deeds) (said : List ℕ) (rest : List Request)
    → 1 ≤ p.piece → IsIdleAt seat first → Ran Steps seat first h last → Talk p ended x h said rest → HasMisfit h → ⊥

-- after such a conversation the store shows the seat as idle, where what was done says so
abbrev pub StoresRest : Type 0
StoresRest = (p : Server) (ended : Bool) (seat : ℕ) (first last : Shown) (x : List ℕ) (h : Deeds) (said : List ℕ) (rest : List Request)
    → 1 ≤ p.piece → IsIdleAt seat first → Ran Steps seat first h last → Talk p ended x h said rest → IsIdle h → IsIdleAt seat last

-- What a seat does at a store is a run of its events, which goes on from what a legal history says: the longer history is legal too,
-- and the store shows what it says.
abbrev pub StoresAreLegal : Type 0
StoresAreLegal = (seat : ℕ) (first last : Shown) (h : Deeds) (start : Start) (before : History) → IsLegal start before → first.view ≡ view_of start before
    → first.pinned ≡ pinned_of start before → Ran Steps seat first h last → HasRun start before (map (λ d. Seat seat d.0) h) (map (λ d. d.1) h) last

-- what was written is a prefix of what is to be said, at any moment
abbrev pub SaysFrontAlways : Type 0
SaysFrontAlways = (s : Session) (x : List ℕ) (h : Deeds) (w : List ℕ) → Leads s x h w → SaysFront (server_of (setup_of s)) (is_input_ended s) x h w
