-- One step of a store: what an event that was answered so makes of what it shows, its pins, its waste and its births.
use Rattle.std.specs.Prelude.{◌≡◌, ◌≢◌, ◌↔◌, ℕ, ◌+◌, Bool, false, if◌then◌else◌, nat_eq, min, IsTrue, List, [], length, Option, Some, None}
use Rattle.std.specs.List.{sum_by, slice_get, slice_index_or, slice_set, All}
use Rattle.gs_event.specs.declared.events.Action.{Action}
use Rattle.gs_event.specs.declared.events.Action.TheVariants.{Pin, Piece, Cancel}
use Rattle.gs_event.specs.declared.events.Event.{Event}
use Rattle.gs_event.specs.declared.events.Event.TheVariants.{Seat as At, Reclaim}
use Rattle.gs_event.specs.declared.answers.Answer.{Answer}
use Rattle.gs_event.specs.declared.answers.Answer.TheVariants.{Pinned, Lines, Cancelled, Reclaimed}
use Rattle.gs_event.specs.Views.{Fits, next_view}
use Rattle.gs_event.specs.Waste.{Lifetime, Shown, is_needed, unneeded}
use Rattle.gs_event.specs.Born.{HasFewBirths, HasSameBirths}
use Rattle.gs_event.specs.Wasting.{WastesIf}

-- a seat's pin after an answer, at the last commit number: a read begins with one and ends without
abbrev pub pin_after : ℕ → Option ℕ → Action → Answer → Option ℕ
pin_after commit p (Pin t) (Pinned s number) = if nat_eq s 200 then Some commit else p
pin_after commit p (Piece n) (Lines b end) = if end then None else p
pin_after commit p Cancel Cancelled = None
pin_after commit p action a = p

-- the next pins, by seat: what an answer leaves
abbrev pub next_pinned : Shown → Event → Answer → List (Option ℕ)
next_pinned old (Reclaim n) a = old.pinned
next_pinned old (At s action) a =
    slice_set old.pinned s (pin_after old.view.totals.commit (slice_index_or old.pinned s None) action a)

-- as many nodes and records as may be are taken out of the waste, none that a pinned version needs, and nothing else;
-- its order means nothing
pub record Frees (pins : List (Option ℕ)) (n freed : ℕ) (left : Bool) (old new : List Lifetime) : Type 0 where
  pub exact : freed ≡ min n (unneeded pins old)
  pub gone : List Lifetime
  pub many : length gone ≡ freed
  pub same : (f : Lifetime → ℕ) → sum_by f new + sum_by f gone ≡ sum_by f old
  pub none_needed : All (λ l. is_needed pins l ≡ false) gone
  pub left_is : IsTrue left ↔ (new ≢ [])

-- what an event that was answered so makes of the waste and of births
abbrev pub Wastes : Shown → Event → Answer → Shown → Type 0
Wastes old (Reclaim n) (Reclaimed freed left) new =
    Frees old.pinned n freed left old.waste new.waste × HasSameBirths old new
Wastes old (Reclaim n) a new = ⊥
Wastes old (At s action) a new = WastesIf old.view.totals s (slice_get old.view.seats s) action a old new

-- the answer fits, and the values before and after it are those of one step
pub record Steps (old : Shown) (e : Event) (a : Answer) (new : Shown) : Type 0 where
  pub fits : Fits old.view e a
  pub view : new.view ≡ next_view old.view e a
  pub pinned : new.pinned ≡ next_pinned old e a
  pub waste : Wastes old e a new
  pub few : HasFewBirths old → HasFewBirths new
