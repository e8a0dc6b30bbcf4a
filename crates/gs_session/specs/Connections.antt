-- What a whole connection did, and where it ended.
use Rattle.std.specs.Prelude.{◌≡◌, ℕ, Bool, true, List, Option}
use Rattle.std.specs.Io.KnownBytes.{Appends, Consumes, IsAtEnd}
use Rattle.gs_event.specs.declared.events.Event.{Event}
use Rattle.gs_event.specs.declared.answers.Answer.{Answer}
use Rattle.gs_event.specs.Phases.{Idle}
use Rattle.gs_stream.specs.Requests.{requests}
use Rattle.gs_talk.specs.Seats.{Deeds, asked_in}
use Rattle.gs_talk.specs.Points.{ArePointsOf}
use Rattle.gs_talk.specs.Logs.{Server}
use Rattle.gs_talk.specs.Closings.{SaysLast, SaysFront}
use Rattle.gs_talk.specs.Laws.{IsIdle}
use Rattle.gs_session.specs.Turns.{Ran}

-- The bytes x were read, h was done at the door by a seat, w was written, and this holds of them.
pub record Connection {D : Type 0} (gives : D → Event → Answer → D → Type 0) (seat : ℕ) (unread left held holds : Option (List ℕ)) (old new : D)
    (Holds : List ℕ → Deeds → List ℕ → Type 0) : Type 0 where
  pub x : List ℕ
  pub h : Deeds
  pub w : List ℕ
  pub read : Consumes unread left x
  pub written : Appends held holds w
  pub ran : Ran gives seat old h new
  pub fact : Holds x h w

-- What was done asks of the abstract store what the requests ask, in their order, and leaves the seat idle, unless an answer did not
-- fit.
abbrev pub AsksRightly : Server → List ℕ → Deeds → Type 0
AsksRightly p x h = ArePointsOf p.base (requests p.base x) (asked_in Idle h) × IsIdle h

-- All that is to be said was written and no request is left, since the reader is at its end, or a reply closed or stopped.
abbrev pub IsFinished : Server → Option (List ℕ) → List ℕ → Deeds → List ℕ → Type 0
IsFinished p left x h w = (ended : Bool) × (ended ≡ true → IsAtEnd left) × SaysLast p ended x h w × AsksRightly p x h

-- what was written is a prefix of what is to be said
abbrev pub Quit : Server → Option (List ℕ) → List ℕ → Deeds → List ℕ → Type 0
Quit p left x h w = (ended : Bool) × (ended ≡ true → IsAtEnd left) × SaysFront p ended x h w × AsksRightly p x h
