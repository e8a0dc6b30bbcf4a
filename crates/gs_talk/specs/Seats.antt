-- The phase of the seat, and what the abstract store is asked, by what was done alone.
use Rattle.std.specs.Prelude.{ℕ, List, [], ◌∷◌, Option, None, Some}
use Rattle.std.specs.List.{cons_option}
use Rattle.gs_event.specs.declared.events.Action.{Action}
use Rattle.gs_event.specs.declared.answers.Answer.{Answer}
use Rattle.gs_event.specs.Conditions.{Asked}
use Rattle.gs_event.specs.Phases.{Phase, Writing, Patching, phase_after, operation_of}

-- each action of the seat with its answer, the oldest first
abbrev pub Deeds : Type 0
Deeds = List (Action × Answer)

-- what the seat is doing; of a read it is not said what is left
abbrev pub SeatPhase : Type 0
SeatPhase = Phase (Unit {0})

-- after one more
abbrev pub phase_then : SeatPhase → Action × Answer → SeatPhase
phase_then p d = phase_after (λ c. tt) (λ left n. left) p d.0 d.1

-- after these
abbrev pub phase_in : SeatPhase → Deeds → SeatPhase
phase_in p [] = p
phase_in p (d ∷ ds) = phase_in (phase_then p d) ds

-- what the abstract store is asked, and on which condition, with the number of the request that opened it, 0 where none did
abbrev pub Point : Type 0
Point = ℕ × Asked

-- the number of the request that opened what the seat is doing
abbrev pub opened_number : SeatPhase → ℕ
opened_number (Writing k r g since) = r
opened_number (Patching t r since) = r
opened_number p = 0

-- that with this number
abbrev pub point_numbered : SeatPhase → Option Asked → Option Point
point_numbered p None = None
point_numbered p (Some q) = Some (opened_number p, q)

-- what the abstract store is asked by these, in order
abbrev pub asked_in : SeatPhase → Deeds → List Point
asked_in p [] = []
asked_in p (d ∷ ds) = cons_option (point_numbered p (operation_of p d.0 d.1)) (asked_in (phase_then p d) ds)
