-- What is proved of conversations.
use Rattle.std.specs.Prelude.{◌≡◌, ◌⊎◌, ℕ, Bool, true, false, List, [], ◌∷◌}
use Rattle.gs_model.specs.declared.refusals.Refusal.TheVariants.{WrongPhase, BadSeat}
use Rattle.gs_event.specs.declared.events.Event.TheVariants.{Seat}
use Rattle.gs_event.specs.declared.answers.Answer.{Answer}
use Rattle.gs_event.specs.declared.answers.Answer.TheVariants.{Refused}
use Rattle.gs_event.specs.Phases.{Idle}
use Rattle.gs_door.specs.Kinds.{IsOfKind}
use Rattle.gs_stream.specs.Requests.{Request, requests}
use Rattle.gs_talk.specs.Seats.{Deeds, phase_in, asked_in}
use Rattle.gs_talk.specs.Logs.{Server, Talk}
use Rattle.gs_talk.specs.Points.{ArePointsOf}

-- what the abstract store is asked in a conversation is asked by its requests, in their order
abbrev pub PointsAreAsks : Type 0
PointsAreAsks = (p : Server) (ended : Bool) (x : List ℕ) (h : Deeds) (said : List ℕ) (rest : List Request) → Talk p ended x h said rest
    → ArePointsOf p.base (requests p.base x) (asked_in Idle h)

-- an answer that no store gives to a session that has a seat for itself
abbrev pub is_misfit : Answer → Bool
is_misfit (Refused WrongPhase) = true
is_misfit (Refused BadSeat) = true
is_misfit answer = false

-- there was one
abbrev pub HasMisfit : Deeds → Type 0
HasMisfit [] = ⊥
HasMisfit (d ∷ ds) = (is_misfit d.1 ≡ true) ⊎ HasMisfit ds

-- each answer is of its action's kind
abbrev pub AreOfKind : ℕ → Deeds → Type 0
AreOfKind seat [] = Unit {0}
AreOfKind seat (d ∷ ds) = IsOfKind (Seat seat d.0) d.1 × AreOfKind seat ds

-- the seat is idle, unless the door gave such an answer
abbrev pub IsIdle : Deeds → Type 0
IsIdle h = (phase_in Idle h ≡ Idle) ⊎ HasMisfit h

-- where no request is left, the seat is idle
abbrev pub RestsIdle : Type 0
RestsIdle = (p : Server) (ended : Bool) (seat : ℕ) (x : List ℕ) (h : Deeds) (said : List ℕ) → AreOfKind seat h → Talk p ended x h said [] → IsIdle h
