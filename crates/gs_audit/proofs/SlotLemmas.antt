-- Slots and the seats whose phases they keep.
use Rattle.std.proofs.Common.{◌≡◌, ℕ, List, map, Option, Some, None, refl, sym, ap, ◌∙◌}
use Rattle.std.specs.List.{slice_get, slice_set}
use Rattle.std.specs.Option.{option_map}
use Rattle.std.proofs.lemmas.List.{map-set}
use Rattle.std.proofs.lemmas.Option.{slice_get-map}
use Rattle.gs_event.specs.Views.{SeatView}
use Rattle.gs_event.specs.Waste.{Shown}
use Rattle.gs_audit.specs.declared.slots.Slot.{Slot}
use Rattle.gs_audit.specs.declared.slots.Slot.TheVariants.{Empty, Upload, Patch}
use Rattle.gs_audit.specs.Slots.{open_of, slot_phase, slot_count}
use Rattle.gs_audit.specs.Takes.{FollowSeats}
use Rattle.gs_audit.proofs.PhaseLemmas.{StagedAt}

pub staged_at : (slot : Slot) → StagedAt (slot_phase slot) (slot_count slot)
staged_at Empty = refl
staged_at (Upload u) = tt
staged_at (Patch p) = refl

option_map-some : {X Y : Type 0} (f : X → Y) (o : Option X) (y : Y) → option_map f o ≡ Some y → (x : X) × (o ≡ Some x) × (f x ≡ y)
option_map-some f None y e = absurd (cc)
option_map-some f (Some x) y e = (x, refl, cc)

option_map-none : {X Y : Type 0} (f : X → Y) (o : Option X) → option_map f o ≡ None → o ≡ None
option_map-none f None e = refl
option_map-none f (Some x) e = absurd (cc)

module _ (shown : Shown) (slots : List Slot) (s : ℕ) (agree : FollowSeats shown slots) where
  same_place : option_map open_of (slice_get shown.view.seats s) ≡ option_map slot_phase (slice_get slots s)
  same_place = sym (slice_get-map open_of shown.view.seats s) ∙ ap (λ (ps : List SeatView). slice_get ps s) agree ∙ slice_get-map slot_phase slots s

  -- the seat of a slot is there, and the slot keeps its phase
  pub seat_there : (slot : Slot) → slice_get slots s ≡ Some slot → (p : SeatView) × (slice_get shown.view.seats s ≡ Some p) × (open_of p ≡ slot_phase slot)
  seat_there slot there = option_map-some open_of (slice_get shown.view.seats s) (slot_phase slot) (same_place ∙ ap (option_map slot_phase) there)

  -- where there is no slot, there is no seat
  pub seat_absent : slice_get slots s ≡ None → slice_get shown.view.seats s ≡ None
  seat_absent absent = option_map-none open_of (slice_get shown.view.seats s) (same_place ∙ ap (option_map slot_phase) absent)

-- a seat and its slot change together
pub agree_set : (seats : List SeatView) (slots : List Slot) (s : ℕ) (p : SeatView) (slot : Slot) → map open_of seats ≡ map slot_phase slots → open_of p ≡ slot_phase slot
    → map open_of (slice_set seats s p) ≡ map slot_phase (slice_set slots s slot)
agree_set seats slots s p slot agree same = map-set open_of seats s p ∙ (λ i. slice_set (agree i) s (same i)) ∙ sym (map-set slot_phase slots s slot)
