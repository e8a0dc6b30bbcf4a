-- The pins after a history and one more answer are the next pins of what it had.
use Rattle.std.proofs.Common.{◌≡◌, ◌≢◌, ℕ, zero, suc, ◌+◌, Bool, true, false, cond, nat_eq, ◌∷◌, map, Option, Some, None, MatchOption, get_or, refl, sym, ap, ◌∙◌, subst, arith, add-zero, zero-add}
use Rattle.std.specs.List.{slice_get, slice_set, range_with_len}
use Rattle.std.proofs.lemmas.Bool.{ne_eqb, eq-eqb}
use Rattle.std.proofs.lemmas.List.{set-get_or}
use Rattle.gs_event.specs.declared.events.Scope.{Scope}
use Rattle.gs_model.specs.declared.refusals.Refusal.{Refusal}
use Rattle.gs_model.specs.declared.refusals.Refusal.TheVariants.{BadSeat}
use Rattle.gs_event.specs.declared.events.Action.{Action}
use Rattle.gs_event.specs.declared.events.Action.TheVariants.{Open, OpenPatch, Stage, Commit, CommitPatch, Pin, Piece, Cancel}
use Rattle.gs_event.specs.declared.events.Event.TheVariants.{Seat as At, Reclaim}
use Rattle.gs_event.specs.declared.answers.Answer.{Answer}
use Rattle.gs_event.specs.declared.answers.Answer.TheVariants.{Opened, Staged, Status, Pinned, Lines, Cancelled, Refused}
use Rattle.gs_event.specs.Phases.{Phase, Idle, Writing, Patching, Reading}
use Rattle.gs_event.specs.Views.{View, Totals, SeatView, Fits, FitsSeat}
use Rattle.gs_event.specs.Waste.{Shown}
use Rattle.gs_event.specs.Steps.{pin_after}
use Rattle.gs_event.specs.Histories.{History, OpenRead, phase_of, phase_by, seat_view, Start, view_of, commit_after, pin_of_read, pinned_of}
use Rattle.gs_event.specs.Continuing.{PinsGoOn}
use Rattle.gs_event.proofs.HistoryLemmas.{later, refused_phase, same_after, changed_at, at_place}

-- a read begins where the test says so
pin_begins : (start : Start) (h : History) (c : Scope) (b : Bool) → pin_of_read start (cond b (Reading (record { scope = c; before = h; given = 0 })) Idle) ≡ cond b (Some (commit_after start h)) None
pin_begins start h c true = refl
pin_begins start h c false = refl

-- a read ends where the test says so, and else goes on with its pin
pin_ends : (start : Start) (r : OpenRead) (n : ℕ) (b : Bool) → pin_of_read start (cond b Idle (Reading (record { scope = r.scope; before = r.before; given = r.given + n }))) ≡ cond b None (Some (commit_after start r.before))
pin_ends start r n true = refl
pin_ends start r n false = refl

-- a seat's pin by its phase goes on as the table of pins says
pin_next : (start : Start) (h : History) (v : Totals) (w : Start) (p : Phase OpenRead) (action : Action) (a : Answer) → FitsSeat v (seat_view w p) action a → pin_of_read start (later h p action a) ≡ pin_after (commit_after start h) (pin_of_read start p) action a
pin_next start h v w Idle (Open k since) (Opened r) fits = refl
pin_next start h v w Idle (OpenPatch t since) (Opened r) fits = refl
pin_next start h v w Idle (Pin t) (Pinned s number) fits = pin_begins start h t (nat_eq s 200)
pin_next start h v w Idle (Piece n) (Lines b end) fits = absurd fits
pin_next start h v w Idle Cancel Cancelled fits = refl
pin_next start h v w (Writing k r g since) (Stage ts) Staged fits = refl
pin_next start h v w (Writing k r g since) Commit (Status s name number) fits = refl
pin_next start h v w (Writing k r g since) Cancel Cancelled fits = refl
pin_next start h v w (Writing k r g since) (Pin t) (Pinned s number) fits = absurd fits
pin_next start h v w (Writing k r g since) (Piece n) (Lines b end) fits = absurd fits
pin_next start h v w (Patching t r since) (CommitPatch ops) (Status s name number) fits = refl
pin_next start h v w (Patching t r since) Cancel Cancelled fits = refl
pin_next start h v w (Patching t r since) (Pin u) (Pinned s number) fits = absurd fits
pin_next start h v w (Patching t r since) (Piece n) (Lines b end) fits = absurd fits
pin_next start h v w (Reading x) (Pin t) (Pinned s number) fits = absurd fits
pin_next start h v w (Reading x) (Piece n) (Lines b end) fits = pin_ends start x n end
pin_next start h v w (Reading x) Cancel Cancelled fits = refl
pin_next start h v w p action a fits = refl

-- a refusal changes no pin
pub refused_pin : (commit : ℕ) (p : Option ℕ) (action : Action) (r : Refusal) → pin_after commit p action (Refused r) ≡ p
refused_pin commit p (Pin t) r = refl
refused_pin commit p (Piece n) r = refl
refused_pin commit p Cancel r = refl
refused_pin commit p action r = refl

-- the element of one list by index, where another list by the same indices has one
same_place : {X Y : Type 0} (f : ℕ → X) (g : ℕ → Y) (a n s : ℕ) (x : X) (d : Y) → slice_get (map f (range_with_len a n)) s ≡ Some x → get_or (map g (range_with_len a n)) s d ≡ g (a + s)
same_place f g a zero s x d e = absurd (cc)
same_place f g a (suc n) zero x d e = rw (add-zero a) refl
same_place f g a (suc n) (suc s) x d e =
    let more : a + suc s ≡ a + 1 + s = omega arith in
    rw more (same_place f g (a + 1) n s x d e)

other_pin : (start : Start) (h : History) (s k : ℕ) (action : Action) (a : Answer) → k ≢ s → pin_of_read start (phase_by h k (phase_of h k) (At s action) a) ≡ pin_of_read start (phase_of h k)
other_pin start h s k action a ne =
    let apart : nat_eq s k ≡ false = ne_eqb s k (λ e. ne (sym e)) in
    rw apart

own_pin : (start : Start) (h : History) (v : Totals) (w : Start) (s : ℕ) (action : Action) (a : Answer) → FitsSeat v (seat_view w (phase_of h s)) action a → pin_of_read start (phase_by h s (phase_of h s) (At s action) a) ≡ pin_after (commit_after start h) (pin_of_read start (phase_of h s)) action a
own_pin start h v w s action a fits =
    let same : nat_eq s s ≡ true = eq-eqb s s refl in
    rw same (pin_next start h v w (phase_of h s) action a fits)

-- the pins are the same by index after a refusal
refused_pins : (start : Start) (h : History) (s : ℕ) (action : Action) (r : Refusal) → pinned_of start ((At s action, Refused r) ∷ h) ≡ pinned_of start h
refused_pins start h s action r = same_after (λ k. pin_of_read start (phase_of h k)) (λ k. pin_of_read start (phase_by h k (phase_of h k) (At s action) (Refused r))) 0 start.seats (λ k _. same k)
  where
    same : (k : ℕ) → pin_of_read start (phase_by h k (phase_of h k) (At s action) (Refused r)) ≡ pin_of_read start (phase_of h k)
    same k =
        elim (nat_eq s k) as (λ b. pin_of_read start (cond b (later h (phase_of h k) action (Refused r)) (phase_of h k)) ≡ pin_of_read start (phase_of h k)) [
          | true ↦ ap (pin_of_read start) (refused_phase _ _ (phase_of h k) action r)
          | false ↦ refl
        ]

-- whether or not there is such a seat
next_pins : (start : Start) (h : History) (s : ℕ) (action : Action) (a : Answer) (o : Option SeatView) → slice_get (view_of start h).seats s ≡ o → MatchOption o (a ≡ Refused BadSeat) (λ p. FitsSeat (view_of start h).totals p action a)
    → pinned_of start ((At s action, a) ∷ h) ≡ slice_set (pinned_of start h) s (pin_after (commit_after start h) (get_or (pinned_of start h) s None) action a)
next_pins start h s action a None is fits =
    let pins = pinned_of start h in
    ap (λ r. pinned_of start ((At s action, r) ∷ h)) fits ∙ refused_pins start h s action BadSeat
    ∙ sym (set-get_or pins s None)
    ∙ sym (ap (λ p. slice_set pins s p) (ap (pin_after (commit_after start h) (get_or pins s None) action) fits ∙ refused_pin (commit_after start h) (get_or pins s None) action BadSeat))
next_pins start h s action a (Some p) is fits =
    let pins = pinned_of start h in
    let seen : seat_view start (phase_of h s) ≡ p = sym (ap (λ k. seat_view start (phase_of h k)) (zero-add s)) ∙ at_place (λ k. seat_view start (phase_of h k)) 0 start.seats s p is in
    let fit : FitsSeat (view_of start h).totals (seat_view start (phase_of h s)) action a = subst (λ q. FitsSeat (view_of start h).totals q action a) (sym seen) fits in
    let here : get_or pins s None ≡ pin_of_read start (phase_of h s) = same_place (λ k. seat_view start (phase_of h k)) (λ k. pin_of_read start (phase_of h k)) 0 start.seats s p None is ∙ ap (λ k. pin_of_read start (phase_of h k)) (zero-add s) in
    let own = own_pin start h (view_of start h).totals start s action a fit ∙ ap (λ q. pin_after (commit_after start h) q action a) (sym here) in
    changed_at (λ k. pin_of_read start (phase_of h k)) (λ k. pin_of_read start (phase_by h k (phase_of h k) (At s action) a)) 0 start.seats s _ (ap (λ k. pin_of_read start (phase_by h k (phase_of h k) (At s action) a)) (zero-add s) ∙ own) (λ k ne. other_pin start h s k action a (λ e. ne (e ∙ sym (zero-add s))))

-- the pins after one more answer that fits
pub pinned_of-cons : (start : Start) (h : History) (s : Shown) → PinsGoOn start h s
pinned_of-cons start h s (Reclaim n) a view pins fits = sym pins
pinned_of-cons start h s (At k action) a view pins fits =
    let fit : Fits (view_of start h) (At k action) a = subst (λ v. Fits v (At k action) a) view fits in
    next_pins start h k action a (slice_get (view_of start h).seats k) refl fit
    ∙ sym (ap (λ ps. slice_set ps k (pin_after (commit_after start h) (get_or ps k None) action a)) pins)
    ∙ sym (ap (λ (v : View). slice_set s.pinned k (pin_after v.totals.commit (get_or s.pinned k None) action a)) view)
