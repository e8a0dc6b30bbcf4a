-- What a store shows, the answers that fit it, and what they leave.
use Rattle.std.specs.Prelude.{◌≡◌, ℕ, ◌+◌, ◌<◌, ◌≤◌, Bool, true, false, if◌then◌else◌, nat_le, List, take, drop, length, Option, Some, None, MatchOption}
use Rattle.std.specs.List.{slice_get, slice_set, concat}
use Rattle.gs_model.specs.Limits.{last_number}
use Rattle.gs_model.specs.declared.refusals.Refusal.TheVariants.{NoMemory, WrongPhase, BadSeat, LastNumber}
use Rattle.gs_event.specs.declared.events.Action.{Action}
use Rattle.gs_event.specs.declared.events.Action.TheVariants.{Open, OpenPatch, Stage, Commit, CommitPatch, Delete, Head, Pin, Piece, Cancel}
use Rattle.gs_event.specs.declared.events.Event.{Event}
use Rattle.gs_event.specs.declared.events.Event.TheVariants.{Seat as At, Reclaim}
use Rattle.gs_event.specs.declared.answers.Answer.{Answer}
use Rattle.gs_event.specs.declared.answers.Answer.TheVariants.{Opened, Staged, Status, Pinned, Lines, Cancelled, Reclaimed, Refused}
use Rattle.gs_event.specs.Datasets.{Dataset, lines_in}
use Rattle.gs_event.specs.Operations.{Setting, Patches, Deletes, Looks, Reads, status_of, is_success}
use Rattle.gs_event.specs.Conditions.{LastWrites, State, Asked, asked_since, after_if, status_if, location_if, number_if, wants_memory_if}
use Rattle.gs_event.specs.Phases.{Phase, Idle, Writing, Patching, Reading, allows, phase_after, write_of, operation_of}

-- a seat as it is seen: a read is the lines that are left of it
abbrev pub SeatView : Type 0
SeatView = Phase (List (List ℕ))

-- the setting, the dataset, the numbers of the last request and of the last commit, and those of the last writes
pub record Totals : Type 0 where
  pub setting : Setting
  pub dataset : Dataset
  pub request : ℕ
  pub commit : ℕ
  pub last_writes : LastWrites

-- what the abstract store keeps
abbrev pub state_of : Totals → State
state_of v = record { dataset = v.dataset; commit = v.commit; last_writes = v.last_writes }

-- the totals, and the seats by their numbers
pub record View : Type 0 where
  pub totals : Totals
  pub seats : List SeatView

-- The answers that fit a write: its status, location and number, and a commit number that is left for it.
-- Want of memory may take the place of the answer where `wants_memory_if` says so.
abbrev pub FitsWrite : Totals → Asked → Answer → Type 0
FitsWrite v q (Status s name number) =
    (s ≡ status_if v.setting (state_of v) q)
    × (name ≡ location_if v.setting (state_of v) q)
    × (is_success s ≡ true → v.commit < last_number)
    × (number ≡ number_if v.setting (state_of v) q)
FitsWrite v q (Refused LastNumber) = (is_success (status_if v.setting (state_of v) q) ≡ true) × (last_number ≤ v.commit)
FitsWrite v q (Refused NoMemory) = wants_memory_if (state_of v) q ≡ true
FitsWrite v q a = ⊥

-- The answers that fit a seat's action. Want of memory may be answered where a row says so, and nowhere else.
abbrev pub FitsSeat : Totals → SeatView → Action → Answer → Type 0
FitsSeat v Idle (Open k since) (Opened r) = (v.request < last_number) × (r ≡ v.request + 1)
FitsSeat v Idle (Open k since) (Refused LastNumber) = last_number ≤ v.request
FitsSeat v Idle (Open k since) (Refused NoMemory) = v.request < last_number
FitsSeat v Idle (OpenPatch t since) (Opened r) = (v.request < last_number) × (r ≡ v.request + 1)
FitsSeat v Idle (OpenPatch t since) (Refused LastNumber) = last_number ≤ v.request
FitsSeat v Idle (OpenPatch t since) (Refused NoMemory) = v.request < last_number
FitsSeat v Idle (Delete t since) (Status s name number) = FitsWrite v (asked_since since (Deletes t)) (Status s name number)
FitsSeat v Idle (Delete t since) (Refused LastNumber) = FitsWrite v (asked_since since (Deletes t)) (Refused LastNumber)
FitsSeat v Idle (Head c) (Status s name number) = (s ≡ status_of v.setting v.dataset (Looks c)) × (name ≡ None) × (number ≡ v.commit)
FitsSeat v Idle (Pin c) (Pinned s number) = (s ≡ status_of v.setting v.dataset (Reads c)) × (number ≡ v.commit)
FitsSeat v (Writing k r g since) (Stage ts) Staged = Unit {0}
FitsSeat v (Writing k r g since) (Stage ts) (Refused NoMemory) = Unit {0}
FitsSeat v (Writing k r g since) Commit (Status s name number) = FitsWrite v (asked_since since (write_of k r g)) (Status s name number)
FitsSeat v (Writing k r g since) Commit (Refused LastNumber) = FitsWrite v (asked_since since (write_of k r g)) (Refused LastNumber)
FitsSeat v (Writing k r g since) Commit (Refused NoMemory) = FitsWrite v (asked_since since (write_of k r g)) (Refused NoMemory)
FitsSeat v (Writing k r g since) Cancel Cancelled = Unit {0}
FitsSeat v (Patching t r since) (CommitPatch ops) (Status s name number) = FitsWrite v (asked_since since (Patches t ops.items)) (Status s name number)
FitsSeat v (Patching t r since) (CommitPatch ops) (Refused LastNumber) = FitsWrite v (asked_since since (Patches t ops.items)) (Refused LastNumber)
FitsSeat v (Patching t r since) (CommitPatch ops) (Refused NoMemory) = FitsWrite v (asked_since since (Patches t ops.items)) (Refused NoMemory)
FitsSeat v (Patching t r since) Cancel Cancelled = Unit {0}
FitsSeat v (Reading left) (Piece n) (Lines b end) = (0 < n) × (b.items ≡ concat (take n left)) × (end ≡ nat_le (length left) n)
FitsSeat v (Reading left) (Piece n) (Refused NoMemory) = 0 < n
FitsSeat v (Reading left) Cancel Cancelled = Unit {0}
FitsSeat v p action (Refused WrongPhase) = allows p action ≡ false
FitsSeat v p action a = ⊥

-- the answers that fit an event
abbrev pub Fits : View → Event → Answer → Type 0
Fits v (Reclaim n) (Reclaimed freed left) = Unit {0}
Fits v (Reclaim n) a = ⊥
Fits v (At s action) a = MatchOption (slice_get v.seats s) (a ≡ Refused BadSeat) (λ p. FitsSeat v.totals p action a)

-- whether an upload or a patch was opened
abbrev pub answers_opened : Answer → Bool
answers_opened (Opened r) = true
answers_opened a = false

-- whether a write took effect
abbrev pub is_written : Answer → Bool
is_written (Status s name number) = is_success s
is_written a = false

-- the state after an operation, if there was one
abbrev pub after_asked : Setting → State → Option Asked → State
after_asked w m None = m
after_asked w m (Some q) = after_if w m q

-- the totals after an answer to a seat at this phase
abbrev pub next_totals : Totals → SeatView → Action → Answer → Totals
next_totals v p action a =
    let next = after_asked v.setting (state_of v) (operation_of p action a) in
    record {
      setting = v.setting;
      dataset = next.dataset;
      request = v.request + (if answers_opened a then 1 else 0);
      commit = next.commit;
      last_writes = next.last_writes;
    }

-- the phase, as it is seen, after an answer to a seat at this phase
abbrev pub next_phase : Totals → SeatView → Action → Answer → SeatView
next_phase v p action a = phase_after (lines_in v.dataset) (λ left n. drop n left) p action a

-- the view after an answer to seat s at this phase
abbrev pub next_at : View → ℕ → SeatView → Action → Answer → View
next_at v s p action a = record {
  totals = next_totals v.totals p action a;
  seats = slice_set v.seats s (next_phase v.totals p action a);
}

-- the same, where there may be no such seat
abbrev pub next_if : View → ℕ → Option SeatView → Action → Answer → View
next_if v s None action a = v
next_if v s (Some p) action a = next_at v s p action a

-- the next view: what an answer leaves
abbrev pub next_view : View → Event → Answer → View
next_view v (Reclaim n) a = v
next_view v (At s action) a = next_if v s (slice_get v.seats s) action a
