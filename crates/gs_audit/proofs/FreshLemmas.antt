-- A new store with its page.
use Rattle.std.proofs.Common.{◌≡◌, ℕ, zero, suc, ◌+◌, List, ◌∷◌, map, refl, sym, ap, subst, ◌∙◌}
use Rattle.std.specs.Prelude.{replicate}
use Rattle.std.specs.List.{range_with_len}
use Rattle.gs_event.specs.Phases.{Idle}
use Rattle.gs_event.specs.Conditions.{state_from}
use Rattle.gs_event.specs.Views.{View, SeatView, state_of}
use Rattle.gs_event.specs.Waste.{Shown}
use Rattle.gs_event.specs.Histories.{Start, ShowsStart}
use Rattle.gs_chronicle.specs.Pages.{PageView, fresh_page}
use Rattle.gs_audit.specs.Decisions.{ReplaysTo}
use Rattle.gs_audit.specs.declared.slots.Slot.{Slot}
use Rattle.gs_audit.specs.declared.slots.Slot.TheVariants.{Empty}
use Rattle.gs_audit.specs.Slots.{open_of, slot_phase, slot_count}
use Rattle.gs_audit.specs.Takes.{FollowSeats}

idle_slots : (f : ℕ → SeatView) → ((s : ℕ) → f s ≡ Idle) → (first n : ℕ) → map open_of (map f (range_with_len first n)) ≡ map slot_phase (replicate n Empty)
idle_slots f idle first zero = refl
idle_slots f idle first (suc n) = λ i. open_of (idle first i) ∷ idle_slots f idle (first + 1) n i

pub fresh_agree : (start : Start) (shown : Shown) (slots : List Slot) → ShowsStart start shown → slots ≡ replicate start.seats Empty → FollowSeats shown slots
fresh_agree start shown slots shows empty =
    ap (λ (v : View). map open_of v.seats) shows ∙ idle_slots _ (λ s. refl) 0 start.seats ∙ ap (map slot_phase) (sym empty)

pub fresh_staged : (n : ℕ) → map slot_count (replicate n Empty) ≡ replicate n 0
fresh_staged zero = refl
fresh_staged (suc n) = ap (λ (ms : List ℕ). 0 ∷ ms) (fresh_staged n)

pub fresh_replays : (start : Start) (shown : Shown) (p : PageView) → start.commit ≡ 0 → ShowsStart start shown → p ≡ fresh_page → ∥ ReplaysTo shown.view p ∥₁
fresh_replays start shown p none shows fresh =
    ∣ subst (ReplaysTo shown.view) (sym fresh) (record {
      first = state_of shown.view.totals;
      begins = λ _. ap (λ (v : View). state_of v.totals) shows ∙ ap state_from none;
      statuses = tt;
      ends = refl;
    }) ∣₁
