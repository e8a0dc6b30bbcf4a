-- What a seat has open, and how it follows the seat's phase.
use Rattle.std.specs.Prelude.{◌≡◌, ℕ, ◌+◌, [], Option, Some, None}
use Rattle.gs_event.specs.declared.events.Action.{Action}
use Rattle.gs_event.specs.declared.events.Action.TheVariants.{Stage, Commit, CommitPatch, Cancel}
use Rattle.gs_event.specs.declared.events.Event.{Event}
use Rattle.gs_event.specs.declared.events.Event.TheVariants.{Seat as At, Reclaim}
use Rattle.gs_event.specs.declared.answers.Answer.{Answer}
use Rattle.gs_event.specs.declared.answers.Answer.TheVariants.{Staged, Status, Cancelled}
use Rattle.gs_event.specs.Phases.{Idle, Writing, Patching, Reading, phase_after}
use Rattle.gs_event.specs.Views.{SeatView}
use Rattle.gs_chronicle.specs.declared.requests.Request.{Request}
use Rattle.gs_chronicle.specs.Sizes.{stopped_count, triples_size}
use Rattle.gs_chronicle.specs.OpenUploads.{triples_so_far, graph_so_far, HasRoomToStage}
use Rattle.gs_chronicle.specs.OpenPatches.{HasFormsOf}
use Rattle.gs_chronicle.specs.Requests.{call_of}
use Rattle.gs_chronicle.specs.Pages.{Decided}
use Rattle.gs_audit.specs.Decisions.{decided_at}
use Rattle.gs_audit.specs.declared.slots.Slot.{Slot}
use Rattle.gs_audit.specs.declared.slots.Slot.TheVariants.{Empty, Upload, Patch}

-- a phase as a slot keeps it: a seat that reads has nothing open that a page will store
abbrev pub open_of : SeatView → SeatView
open_of Idle = Idle
open_of (Writing k r g since) = Writing k r g since
open_of (Patching t r since) = Patching t r since
open_of (Reading left) = Idle

-- the phase that a slot keeps
abbrev pub slot_phase : Slot → SeatView
slot_phase Empty = Idle
slot_phase (Upload u) = Writing u.kind u.request (graph_so_far u) u.since
slot_phase (Patch p) = Patching p.target p.request p.since

-- as how many triples what was staged counts, with repeats
abbrev pub slot_count : Slot → ℕ
slot_count Empty = 0
slot_count (Upload u) = triples_size (triples_so_far u)
slot_count (Patch p) = 0

-- a kept phase after an answer
abbrev pub open_after : SeatView → Action → Answer → SeatView
open_after p action a = open_of (phase_after (λ c. []) (λ left n. left) p action a)

-- as how many triples what is staged counts after an answer, at a slot with this phase, where it was n
abbrev pub count_after : SeatView → ℕ → Action → Answer → ℕ
count_after (Writing k r g since) n (Stage ts) Staged = stopped_count (n + triples_size ts.items)
count_after (Writing k r g since) n Commit (Status s name number) = 0
count_after (Writing k r g since) n Cancel Cancelled = 0
count_after p n action a = n

-- there is room for what the action brings
abbrev pub CanStage : Slot → Action → Type 0
CanStage (Upload u) (Stage ts) = HasRoomToStage u ts.items
CanStage (Patch p) (CommitPatch ops) = HasFormsOf p ops.items
CanStage slot action = Unit {0}

-- there is room for what the event brings
abbrev pub CanTake : Slot → Event → Type 0
CanTake slot (Reclaim n) = Unit {0}
CanTake slot (At s action) = CanStage slot action

-- the event stages to an open upload
abbrev pub MayLack : SeatView → Event → Type 0
MayLack (Writing k r g since) (At s (Stage ts)) = Unit {0}
MayLack p e = ⊥

-- a call of this seat that was decided, if there was one
abbrev pub called : ℕ → Option (Request × ℕ) → Option Decided
called s None = None
called s (Some c) = Some (call_of s c.0 c.1)

-- what an action that was answered so makes of a slot, and the request with its status, if any was decided
pub record NotesAction (old : Slot) (action : Action) (a : Answer) (new : Slot) (call : Option (Request × ℕ)) : Type 0 where
  pub phase : slot_phase new ≡ open_after (slot_phase old) action a
  pub count : slot_count new ≡ count_after (slot_phase old) (slot_count old) action a
  pub decided : (s : ℕ) → called s call ≡ decided_at s (slot_phase old) (slot_count old) action a
