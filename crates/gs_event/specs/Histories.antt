-- Histories of events with their answers, and what they mean.
use Rattle.std.specs.Prelude.{◌≡◌, ℕ, ◌+◌, List, [], ◌∷◌, map, length, nat_eq, cond, drop, Option, Some, None, reverse, ◌++◌}
use Rattle.std.specs.List.{zip, range_with_len, count_by, cons_option}
use Rattle.gs_event.specs.declared.events.Scope.{Scope}
use Rattle.gs_event.specs.declared.events.Event.{Event}
use Rattle.gs_event.specs.declared.events.Event.TheVariants.{Seat as At, Reclaim}
use Rattle.gs_event.specs.declared.answers.Answer.{Answer}
use Rattle.gs_event.specs.declared.limits.Limits.{Limits}
use Rattle.gs_event.specs.Datasets.{Dataset, lines_in}
use Rattle.gs_event.specs.Operations.{Setting}
use Rattle.gs_event.specs.Conditions.{State, Asked, after_all_if}
use Rattle.gs_event.specs.Phases.{Phase, Idle, Writing, Patching, Reading, phase_after, operation_of}
use Rattle.gs_event.specs.Views.{View, SeatView, Fits, answers_opened}
use Rattle.gs_event.specs.Waste.{Shown}

-- each event with its answer, the newest first: the tail of a history is what went before
abbrev pub History : Type 0
History = List (Event × Answer)

-- an open read: its scope, the history before its pin, and how many of its lines were given since
pub record OpenRead : Type 0 where
  pub scope : Scope
  pub before : History
  pub given : ℕ

-- what the phase of a seat becomes by one more event and its answer
abbrev pub phase_by : History → ℕ → Phase OpenRead → Event → Answer → Phase OpenRead
phase_by before seat p (Reclaim n) a = p
phase_by before seat p (At s action) a =
    cond (nat_eq s seat)
    (phase_after (λ c. record { scope = c; before = before; given = 0 }) (λ r n. record { scope = r.scope; before = r.before; given = r.given + n }) p action a)
    p

-- the phase of a seat, from its events and their answers alone
abbrev pub phase_of : History → ℕ → Phase OpenRead
phase_of [] seat = Idle
phase_of (x ∷ before) seat = phase_by before seat (phase_of before seat) x.0 x.1

-- what the abstract store is asked by an event that was answered so
abbrev pub operation_by : History → Event → Answer → Option Asked
operation_by before (Reclaim n) a = None
operation_by before (At s action) a = operation_of (phase_of before s) action a

-- the points of a history, the newest first: each write at its commit, and each read at its pin
abbrev pub points_of : History → List Asked
points_of [] = []
points_of (x ∷ before) = cons_option (operation_by before x.0 x.1) (points_of before)

-- where a store begins
pub record Start : Type 0 where
  pub seats : ℕ
  pub setting : Setting
  pub request : ℕ
  pub commit : ℕ

-- so many seats, this base and these limits, and these last request and commit numbers
abbrev pub start_with : ℕ → List ℕ → Limits → ℕ → ℕ → Start
start_with seats base limits request commit =
    record { seats = seats; setting = record { base = base; limits = limits }; request = request; commit = commit }

-- what the abstract store keeps after a history
abbrev pub state_after : Start → History → State
state_after start h = after_all_if start.setting start.commit (points_of h)

-- the dataset after a history
abbrev pub dataset_after : Start → History → Dataset
dataset_after start h = (state_after start h).dataset

-- the lines left of a read: its graph's or dataset's at the pin, without those that were given
abbrev pub lines_left : Start → OpenRead → List (List ℕ)
lines_left start r = drop r.given (lines_in (dataset_after start r.before) r.scope)

-- a phase as it is seen
abbrev pub seat_view : Start → Phase OpenRead → SeatView
seat_view start Idle = Idle
seat_view start (Writing k r g since) = Writing k r g since
seat_view start (Patching t r since) = Patching t r since
seat_view start (Reading r) = Reading (lines_left start r)

-- the last commit number after a history
abbrev pub commit_after : Start → History → ℕ
commit_after start h = (state_after start h).commit

-- what a store shows after a history
abbrev pub view_of : Start → History → View
view_of start h = record {
  totals = record {
    setting = start.setting;
    dataset = dataset_after start h;
    request = start.request + count_by (λ x. answers_opened x.1) h;
    commit = commit_after start h;
    last_writes = (state_after start h).last_writes;
  };
  seats = map (λ s. seat_view start (phase_of h s)) (range_with_len 0 start.seats);
}

-- the commit number at the pin of a read
abbrev pub pin_of_read : Start → Phase OpenRead → Option ℕ
pin_of_read start Idle = None
pin_of_read start (Writing k r g since) = None
pin_of_read start (Patching t r since) = None
pin_of_read start (Reading r) = Some (commit_after start r.before)

-- the commit numbers at the pins of all reads, by seat
abbrev pub pinned_of : Start → History → List (Option ℕ)
pinned_of start h = map (λ s. pin_of_read start (phase_of h s)) (range_with_len 0 start.seats)

-- a store that begins so shows what the empty history says
abbrev pub ShowsStart : Start → Shown → Type 0
ShowsStart start s = s.view ≡ view_of start []

-- and has its pins, which are none
abbrev pub HasStartPins : Start → Shown → Type 0
HasStartPins start s = s.pinned ≡ pinned_of start []

-- a legal history: each answer fits what the history before it shows
abbrev pub IsLegal : Start → History → Type 0
IsLegal start [] = Unit {0}
IsLegal start (x ∷ before) = IsLegal start before × Fits (view_of start before) x.0 x.1

-- the history of these events with these answers
abbrev pub history_of : List Event → List Answer → History
history_of events answers = reverse (zip events answers)

-- on a history before them, these answers to these events are legal, and the store then shows what the
-- whole history says, and has its pins
pub record HasRun (start : Start) (before : History) (events : List Event) (answers : List Answer) (shown : Shown) : Type 0 where
  pub answered : length answers ≡ length events
  pub legal : IsLegal start (history_of events answers ++ before)
  pub view : shown.view ≡ view_of start (history_of events answers ++ before)
  pub pinned : shown.pinned ≡ pinned_of start (history_of events answers ++ before)
