-- What an event makes of the slot of its seat; and of the store, of all slots and of the page.
use Rattle.std.specs.Prelude.{◌≡◌, ◌⊎◌, ℕ, List, map, Option, None}
use Rattle.gs_model.specs.declared.refusals.Refusal.TheVariants.{NoMemory}
use Rattle.gs_event.specs.declared.events.Event.{Event}
use Rattle.gs_event.specs.declared.events.Event.TheVariants.{Seat as At, Reclaim}
use Rattle.gs_event.specs.declared.answers.Answer.{Answer}
use Rattle.gs_event.specs.declared.answers.Answer.TheVariants.{Refused}
use Rattle.gs_event.specs.Views.{SeatView}
use Rattle.gs_event.specs.Waste.{Shown}
use Rattle.gs_event.specs.Steps.{Steps}
use Rattle.gs_chronicle.specs.Pages.{Decided, PageView}
use Rattle.gs_audit.specs.declared.slots.Slot.{Slot}
use Rattle.gs_audit.specs.Staged.{staged_after}
use Rattle.gs_audit.specs.Decisions.{decided_at, decided_by, page_by}
use Rattle.gs_audit.specs.Slots.{open_of, slot_phase, slot_count, open_after, count_after, MayLack}

-- a step of the store, or want of memory for what an upload is given, and then the store is as it was
abbrev pub StepsOrLacks : Shown → SeatView → Event → Answer → Shown → Type 0
StepsOrLacks old p e a new = Steps old e a new ⊎ (MayLack p e × (a ≡ Refused NoMemory) × (new ≡ old))

-- the phase that the slot keeps then
abbrev pub kept_phase : SeatView → Event → Answer → SeatView
kept_phase p (Reclaim n) a = p
kept_phase p (At s action) a = open_after p action a

-- as how many triples counts what is staged then, where it was k
abbrev pub kept_count : SeatView → ℕ → Event → Answer → ℕ
kept_count p k (Reclaim n) a = k
kept_count p k (At s action) a = count_after p k action a

-- what the event decided, where what is staged counts as k triples
abbrev pub kept_call : SeatView → ℕ → Event → Answer → Option Decided
kept_call p k (Reclaim n) a = None
kept_call p k (At s action) a = decided_at s p k action a

-- each slot keeps the phase of its seat
abbrev pub FollowSeats : Shown → List Slot → Type 0
FollowSeats shown slots = map open_of shown.view.seats ≡ map slot_phase slots

-- What an event that was answered so makes of a store, of slots that keep its seats' phases, and of a page.
pub record TakesEvent (most_rows most_triples : ℕ) (old : Shown) (slots : List Slot) (page_old : PageView) (e : Event) (a : Answer) (new : Shown) (slots_new : List Slot) (page_new : PageView) : Type 0 where
  pub steps : Steps old e a new
  pub agree : FollowSeats new slots_new
  pub staged : map slot_count slots_new ≡ staged_after (map slot_count slots) e a
  pub page : page_new ≡ page_by most_rows most_triples page_old (decided_by old.view (map slot_count slots) e a)
