-- A store stays as it began, and knows each of its seats.
use Rattle.std.proofs.Common.{◌≡◌, ◌≢◌, ℕ, zero, suc, ◌<◌, List, [], ◌∷◌, length, Option, None, Some, Bool, true, false, refl, sym, ap, ◌∙◌, subst, arith}
use Rattle.std.specs.Prelude.{not, nat_eq, MatchOption}
use Rattle.std.specs.List.{slice_get}
use Rattle.std.proofs.lemmas.List.{length-set}
use Rattle.std.proofs.lemmas.List.FromFn.{length-map-range_with_len}
use Rattle.std.proofs.lemmas.Bool.Decides.{nat_tests}
use Rattle.gs_model.specs.declared.refusals.Refusal.TheVariants.{BadSeat}
use Rattle.gs_event.specs.declared.events.Action.{Action}
use Rattle.gs_event.specs.declared.events.Action.TheVariants.{Open, OpenPatch, Stage, Commit, CommitPatch, Delete, Head, Pin, Piece, Cancel}
use Rattle.gs_event.specs.declared.events.Event.{Event}
use Rattle.gs_event.specs.declared.events.Event.TheVariants.{Seat as At, Reclaim}
use Rattle.gs_event.specs.declared.answers.Answer.{Answer}
use Rattle.gs_event.specs.declared.answers.Answer.TheVariants.{Refused}
use Rattle.gs_event.specs.Phases.{Idle, Writing, Patching, Reading}
use Rattle.gs_event.specs.Views.{View, SeatView, Totals, Fits, FitsSeat, next_phase, next_if, next_view}
use Rattle.gs_event.specs.Histories.{Start, seat_view, phase_of, view_of}
use Rattle.gs_shared.specs.Seats.{BeganAs}
use Rattle.gs_shared.specs.Tells.{is_of_another}

-- what a new store shows
pub began_new : (start : Start) (v : View) → v ≡ view_of start [] → BeganAs start v
began_new start v is =
    (ap (λ (w : View). w.totals.setting) is, ap (λ (w : View). length w.seats) is ∙ length-map-range_with_len (λ s. seat_view start (phase_of [] s)) 0 start.seats)

-- what a store shows after one event more
pub began_next : (start : Start) (old new : View) (e : Event) (a : Answer) → new ≡ next_view old e a → BeganAs start old → BeganAs start new
began_next start old new (Reclaim n) a is b = subst (BeganAs start) (sym is) b
began_next start old new (At s action) a is b = subst (BeganAs start) (sym is) (at (slice_get old.seats s))
  where
    at : (o : Option SeatView) → BeganAs start (next_if old s o action a)
    at None = b
    at (Some p) = (b.0, length-set old.seats s (next_phase old.totals p action a) ∙ b.1)

-- no answer of a seat that is there is BadSeat
seat_knows : (w : Totals) (p : SeatView) (action : Action) → FitsSeat w p action (Refused BadSeat) → ⊥
seat_knows w Idle (Open k _) f = f
seat_knows w Idle (OpenPatch t _) f = f
seat_knows w Idle (Delete t _) f = f
seat_knows w Idle (Head c) f = f
seat_knows w Idle (Pin c) f = f
seat_knows w (Writing k r g since) (Stage ts) f = f
seat_knows w (Writing k r g since) Commit f = f
seat_knows w (Writing k r g since) Cancel f = f
seat_knows w (Patching t r since) (CommitPatch ops) f = f
seat_knows w (Patching t r since) Cancel f = f
seat_knows w (Reading left) (Piece n) f = f
seat_knows w (Reading left) Cancel f = f
seat_knows w p action f = f

-- what is within a list is there
is_there : {X : Type 0} (xs : List X) (i : ℕ) → slice_get xs i ≡ None → i < length xs → ⊥
is_there [] i none few = omega (arith, few)
is_there (x ∷ xs) zero none few = absurd (cc)
is_there (x ∷ xs) (suc i) none few = is_there xs i none (omega (arith, few))

-- no answer to an event that is no action of another seat is BadSeat, where the seat is one of the store's
pub own_is_there : (start : Start) (v : View) (e : Event) (a : Answer) (seat : ℕ) → BeganAs start v → seat < start.seats → is_of_another seat e ≡ false → Fits v e a → a ≢ Refused BadSeat
own_is_there start v (Reclaim n) a seat b few own fits is = subst (Fits v (Reclaim n)) is fits
own_is_there start v (At s action) a seat b few own fits is = at (slice_get v.seats s) refl (subst (Fits v (At s action)) is fits)
  where
    same : (t : Bool) → nat_eq s seat ≡ t → not t ≡ false → s ≡ seat
    same true e n = grind (arith, nat_tests)
    same false e n = absurd (cc)

    at : (o : Option SeatView) → slice_get v.seats s ≡ o → MatchOption o (Refused BadSeat ≡ Refused BadSeat) (λ p. FitsSeat v.totals p action (Refused BadSeat)) → ⊥
    at None none f = is_there v.seats s none (omega (arith, same (nat_eq s seat) refl own, few, b.1))
    at (Some p) none f = seat_knows v.totals p action f
