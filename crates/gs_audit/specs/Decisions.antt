-- What an event decided, and what that makes of a page.
use Rattle.std.specs.Prelude.{ℕ, List, Option, Some, None}
use Rattle.std.specs.List.{slice_get, slice_index}
use Rattle.gs_event.specs.declared.events.Action.{Action}
use Rattle.gs_event.specs.declared.events.Action.TheVariants.{Commit, CommitPatch}
use Rattle.gs_event.specs.declared.events.Event.{Event}
use Rattle.gs_event.specs.declared.events.Event.TheVariants.{Seat as At, Reclaim}
use Rattle.gs_event.specs.declared.answers.Answer.{Answer}
use Rattle.gs_event.specs.declared.answers.Answer.TheVariants.{Status, Pinned}
use Rattle.gs_event.specs.Conditions.{Asked}
use Rattle.gs_event.specs.Phases.{operation_of}
use Rattle.gs_event.specs.Views.{View, SeatView, state_of}
use Rattle.gs_chronicle.specs.Sizes.{ops_size}
use Rattle.gs_chronicle.specs.Pages.{Decided, PageView, page_after}
use Rattle.gs_chronicle.specs.Replays.{Replays}

-- the status of a decided call
abbrev pub status_in : Answer → ℕ
status_in (Status s name number) = s
status_in (Pinned s number) = s
status_in a = 0

-- as how many triples a decided call's request counts, at a seat where what is staged counts as n
abbrev pub triples_by : ℕ → Action → ℕ
triples_by n Commit = n
triples_by n (CommitPatch ops) = ops_size ops.items
triples_by n action = 0

-- the decided call, where the abstract store was asked something
abbrev pub call_for : (seat triples status : ℕ) → Option Asked → Option Decided
call_for seat triples status None = None
call_for seat triples status (Some q) = Some (record { seat = seat; asked = q; triples = triples; status = status })

-- what an answered action decided, at seat s in this phase, where n triples are staged
abbrev pub decided_at : ℕ → SeatView → ℕ → Action → Answer → Option Decided
decided_at s p n action a = call_for s (triples_by n action) (status_in a) (operation_of p action a)

-- the same, where there may be no such seat
abbrev pub decided_if : ℕ → Option SeatView → ℕ → Action → Answer → Option Decided
decided_if s None n action a = None
decided_if s (Some p) n action a = decided_at s p n action a

-- what an answered event decided, at a store that shows this, where so many triples are staged at each seat
abbrev pub decided_by : View → List ℕ → Event → Answer → Option Decided
decided_by v staged (Reclaim n) a = None
decided_by v staged (At s action) a = decided_if s (slice_get v.seats s) (slice_index staged s) action a

-- the page after that
abbrev pub page_by : (most_rows most_triples : ℕ) → PageView → Option Decided → PageView
page_by most_rows most_triples p None = p
page_by most_rows most_triples p (Some d) = page_after most_rows most_triples p d

-- The page replays to the dataset, the commit number and the last writes that are shown. Page 0 replays from where a store
-- begins before any commit.
abbrev pub ReplaysTo : View → PageView → Type 0
ReplaysTo v p = Replays v.totals.setting 0 p (state_of v.totals)
