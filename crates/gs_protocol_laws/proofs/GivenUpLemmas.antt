-- While an upload or a patch is open its seat asks nothing.
use Rattle.std.proofs.Common.{◌≡◌, ◌≢◌, ◌⊎◌, inl, inr, ℕ, Bool, true, false, cond, nat_eq, [], ◌∷◌, ◌++◌, None, refl, sym, ap, ◌∙◌, subst}
use Rattle.std.specs.List.{cons_option}
use Rattle.std.proofs.lemmas.Bool.{eqb-true, eq-eqb, ne_eqb}
use Rattle.gs_model.specs.declared.refusals.Refusal.TheVariants.{BadSeat}
use Rattle.gs_event.specs.declared.events.Action.{Action}
use Rattle.gs_event.specs.declared.events.Action.TheVariants.{Open, OpenPatch, Stage, Commit, CommitPatch, Delete, Head, Pin, Piece, Cancel}
use Rattle.gs_event.specs.declared.events.Event.{Event}
use Rattle.gs_event.specs.declared.events.Event.TheVariants.{Seat as At, Reclaim}
use Rattle.gs_event.specs.declared.answers.Answer.{Answer}
use Rattle.gs_event.specs.declared.answers.Answer.TheVariants.{Opened, Staged, Status, Cancelled, Refused}
use Rattle.gs_event.specs.Phases.{Phase, Idle, Writing, Patching, Reading, operation_of}
use Rattle.gs_event.specs.Views.{Totals, FitsSeat}
use Rattle.gs_event.specs.Histories.{History, OpenRead, Start, IsLegal, phase_of, operation_by, points_of, seat_view, view_of}
use Rattle.gs_event.proofs.HistoryLemmas.{later}
use Rattle.gs_protocol_laws.specs.GivenUp.{ends_upload, LeavesUpload, LeaveUpload, is_of_seat, apart, OpenUploadsLeaveNothing, GivenUpUploadsLeaveNothing}
use Rattle.gs_protocol_laws.proofs.FitLemmas.{legal_before, fits_phase}
use Rattle.gs_protocol_laws.proofs.AlikeLemmas.{outline, AreAlike, asks_alike, phases_by, points_on}

-- an upload or a patch is open
abbrev IsOpen : Phase OpenRead → Type 0
IsOpen Idle = ⊥
IsOpen (Writing k r g since) = Unit {0}
IsOpen (Patching t r since) = Unit {0}
IsOpen (Reading left) = ⊥

-- it stays open
stays_open : (h : History) (p : Phase OpenRead) (action : Action) (a : Answer) → IsOpen p → ends_upload action a ≡ false → IsOpen (later h p action a)
stays_open h Idle action a o e = absurd o
stays_open h (Reading left) action a o e = absurd o
stays_open h (Writing k r g since) (Stage ts) Staged o e = tt
stays_open h (Writing k r g since) Commit (Status s name number) o e = absurd (cc)
stays_open h (Writing k r g since) Cancel Cancelled o e = absurd (cc)
stays_open h (Writing k r g since) action a o e = tt
stays_open h (Patching t r since) (CommitPatch ops) (Status s name number) o e = absurd (cc)
stays_open h (Patching t r since) Cancel Cancelled o e = absurd (cc)
stays_open h (Patching t r since) action a o e = tt

-- and nothing is asked
asks_nothing : (p : Phase OpenRead) (action : Action) (a : Answer) → IsOpen p → ends_upload action a ≡ false → operation_of p action a ≡ None
asks_nothing Idle action a o e = absurd o
asks_nothing (Reading left) action a o e = absurd o
asks_nothing (Writing k r g since) Commit (Status s name number) o e = absurd (cc)
asks_nothing (Writing k r g since) action a o e = refl
asks_nothing (Patching t r since) (CommitPatch ops) (Status s name number) o e = absurd (cc)
asks_nothing (Patching t r since) action a o e = refl

-- neither is by giving it up
cancel_asks : (p : Phase OpenRead) → operation_of p Cancel Cancelled ≡ None
cancel_asks Idle = refl
cancel_asks (Writing k r g since) = refl
cancel_asks (Patching t r since) = refl
cancel_asks (Reading left) = refl

-- nor by opening it: the seat was idle, and then it is open
record Opens (h : History) (p : Phase OpenRead) (action : Action) (r : ℕ) : Type 0 where
  pub idle : p ≡ Idle
  pub opened : IsOpen (later h p action (Opened r))
  pub nothing : operation_of p action (Opened r) ≡ None

opened_so : (v : Totals) (w : Start) (h : History) (p : Phase OpenRead) (action : Action) (r : ℕ) → FitsSeat v (seat_view w p) action (Opened r) → Opens h p action r
opened_so v w h Idle (Open k condition) r f = record { idle = refl; opened = tt; nothing = refl }
opened_so v w h Idle (OpenPatch t condition) r f = record { idle = refl; opened = tt; nothing = refl }
opened_so v w h Idle (Delete t condition) r f = absurd f
opened_so v w h Idle (Head c) r f = absurd f
opened_so v w h Idle (Pin c) r f = absurd f
opened_so v w h (Writing k n g since) (Stage ts) r f = absurd f
opened_so v w h (Writing k n g since) Commit r f = absurd f
opened_so v w h (Writing k n g since) Cancel r f = absurd f
opened_so v w h (Patching t n since) (CommitPatch ops) r f = absurd f
opened_so v w h (Patching t n since) Cancel r f = absurd f
opened_so v w h (Reading left) (Piece n) r f = absurd f
opened_so v w h (Reading left) Cancel r f = absurd f
opened_so v w h p action r f = absurd f

seat_opens : (start : Start) (h : History) (seat : ℕ) (action : Action) (r : ℕ) → IsLegal start ((At seat action, Opened r) ∷ h) → Opens h (phase_of h seat) action r
seat_opens start h seat action r legal = go (fits_phase start h seat action (Opened r) legal.1) where
  go : (Opened r ≡ Refused BadSeat) ⊎ FitsSeat (view_of start h).totals (seat_view start (phase_of h seat)) action (Opened r) → Opens h (phase_of h seat) action r
  go (inl e) = absurd (cc)
  go (inr k) = opened_so (view_of start h).totals start h (phase_of h seat) action r k

not_same : (m n : ℕ) → nat_eq m n ≡ false → m ≢ n
not_same m n e same = let clash : true ≡ false = sym (eq-eqb m n same) ∙ e in absurd (cc)

-- a seat's phase is left by an event of another
other_phase : (h : History) (s n : ℕ) (action : Action) (a : Answer) → s ≢ n → phase_of ((At s action, a) ∷ h) n ≡ phase_of h n
other_phase h s n action a ne = ap (λ b. cond b (later h (phase_of h n) action a) (phase_of h n)) (ne_eqb s n ne)

own_phase : (h : History) (s : ℕ) (action : Action) (a : Answer) → phase_of ((At s action, a) ∷ h) s ≡ later h (phase_of h s) action a
own_phase h s action a = ap (λ b. cond b (later h (phase_of h s) action a) (phase_of h s)) (eq-eqb s s refl)

-- since it was opened, k being the history without the seat's events: it is open, other seats are as they are after k, and so are
-- the points
record Since (seat : ℕ) (h k : History) : Type 0 where
  pub opened : IsOpen (phase_of h seat)
  pub alike : (n : ℕ) → n ≢ seat → AreAlike (phase_of h n) (phase_of k n)
  pub points : points_of h ≡ points_of k

-- one more event of the seat
own_since : (seat : ℕ) (h k : History) (action : Action) (a : Answer) → ends_upload action a ≡ false → Since seat h k → Since seat ((At seat action, a) ∷ h) k
own_since seat h k action a e z = record {
  opened = subst IsOpen (sym (own_phase h seat action a)) (stays_open h (phase_of h seat) action a z.opened e);
  alike = λ n ne. ap outline (other_phase h seat n action a (λ is. ne (sym is))) ∙ z.alike n ne;
  points = ap (λ q. cons_option q (points_of h)) (asks_nothing (phase_of h seat) action a z.opened e) ∙ z.points;
}

-- one more event of another
other_since : (seat : ℕ) (h k : History) (s : ℕ) (action : Action) (a : Answer) → s ≢ seat → Since seat h k → Since seat ((At s action, a) ∷ h) ((At s action, a) ∷ k)
other_since seat h k s action a ne z = record {
  opened = subst IsOpen (sym (other_phase h s seat action a ne)) z.opened;
  alike = λ n nn. phases_by h k n (At s action) a (z.alike n nn);
  points = ap (λ q. cons_option q (points_of h)) (asks_alike (phase_of h s) (phase_of k s) action a (z.alike s ne))
      ∙ ap (cons_option (operation_by k (At s action) a)) z.points;
}

one_more : (seat : ℕ) (h k before : History) (e : Event) (a : Answer) (rest : History) → k ≡ rest ++ before → LeavesUpload seat e a → Since seat h k
    → Since seat ((e, a) ∷ h) (cond (is_of_seat seat e) rest ((e, a) ∷ rest) ++ before)
one_more seat h k before (Reclaim n) a rest is l z =
    let same = subst (Since seat h) is z in
    record { opened = same.opened; alike = same.alike; points = same.points }
one_more seat h k before (At s action) a rest is l z = go (nat_eq s seat) refl where
  here : Since seat h (rest ++ before)
  here = subst (Since seat h) is z

  go : (b : Bool) → nat_eq s seat ≡ b → Since seat ((At s action, a) ∷ h) (cond (nat_eq s seat) rest ((At s action, a) ∷ rest) ++ before)
  go true e =
      let same : s ≡ seat = eqb-true s seat e in
      subst (λ b. Since seat ((At s action, a) ∷ h) (cond b rest ((At s action, a) ∷ rest) ++ before)) (sym e)
      (subst (λ n. Since seat ((At n action, a) ∷ h) (rest ++ before)) (sym same) (own_since seat h (rest ++ before) action a (l same) here))
  go false e =
      subst (λ b. Since seat ((At s action, a) ∷ h) (cond b rest ((At s action, a) ∷ rest) ++ before)) (sym e)
      (other_since seat h (rest ++ before) s action a (not_same s seat e) here)

-- since it was opened, with all that followed
since_open : (start : Start) (before since : History) (seat r : ℕ) (action : Action) → IsLegal start (since ++ (At seat action, Opened r) ∷ before) → LeaveUpload seat since
    → Since seat (since ++ (At seat action, Opened r) ∷ before) (apart seat since ++ before)
since_open start before [] seat r action legal l =
    let begun = seat_opens start before seat action r legal in
    record {
      opened = subst IsOpen (sym (own_phase before seat action (Opened r))) begun.opened;
      alike = λ n ne. ap outline (other_phase before seat n action (Opened r) (λ is. ne (sym is)));
      points = ap (λ q. cons_option q (points_of before)) begun.nothing;
    }
since_open start before (x ∷ since) seat r action legal l =
    one_more seat (since ++ (At seat action, Opened r) ∷ before) (apart seat since ++ before) before x.0 x.1 (apart seat since) refl l.1
    (since_open start before since seat r action legal.0 l.0)

pub open_leaves_nothing : OpenUploadsLeaveNothing
open_leaves_nothing start before since seat request action legal l = (since_open start before since seat request action legal l).points

-- given up, the seat is idle
cancelled : (h : History) (p : Phase OpenRead) → IsOpen p → later h p Cancel Cancelled ≡ Idle
cancelled h Idle o = absurd o
cancelled h (Writing k r g since) o = refl
cancelled h (Patching t r since) o = refl
cancelled h (Reading left) o = absurd o

-- as it was before it was opened, and as it is without its events
still_idle : (seat : ℕ) (before rest : History) (e : Event) (a : Answer) → phase_of (rest ++ before) seat ≡ Idle → phase_of (cond (is_of_seat seat e) rest ((e, a) ∷ rest) ++ before) seat ≡ Idle
still_idle seat before rest (Reclaim n) a idle = idle
still_idle seat before rest (At s action) a idle =
    elim (nat_eq s seat) as (λ b. nat_eq s seat ≡ b → phase_of (cond b rest ((At s action, a) ∷ rest) ++ before) seat ≡ Idle) [
      | true ↦ λ e. idle
      | false ↦ λ e. other_phase (rest ++ before) s seat action a (not_same s seat e) ∙ idle
    ] refl

idle_apart : (before since : History) (seat : ℕ) → phase_of before seat ≡ Idle → phase_of (apart seat since ++ before) seat ≡ Idle
idle_apart before [] seat idle = idle
idle_apart before (x ∷ since) seat idle = still_idle seat before (apart seat since) x.0 x.1 (idle_apart before since seat idle)

pub leaves_nothing : GivenUpUploadsLeaveNothing
leaves_nothing start before since after seat request action legal l = points_on after ((At seat Cancel, Cancelled) ∷ h) k points alike where
  h : History
  h = since ++ (At seat action, Opened request) ∷ before

  k : History
  k = apart seat since ++ before

  sound : IsLegal start h
  sound = (legal_before start ((At seat Cancel, Cancelled) ∷ h) after legal).0

  z : Since seat h k
  z = since_open start before since seat request action sound l

  points : points_of ((At seat Cancel, Cancelled) ∷ h) ≡ points_of k
  points = ap (λ q. cons_option q (points_of h)) (cancel_asks (phase_of h seat)) ∙ z.points

  own : AreAlike (phase_of ((At seat Cancel, Cancelled) ∷ h) seat) (phase_of k seat)
  own = ap outline (own_phase h seat Cancel Cancelled ∙ cancelled h (phase_of h seat) z.opened
      ∙ sym (idle_apart before since seat (seat_opens start before seat action request (legal_before start ((At seat action, Opened request) ∷ before) since sound)).idle))

  alike : (n : ℕ) → AreAlike (phase_of ((At seat Cancel, Cancelled) ∷ h) n) (phase_of k n)
  alike n =
      elim (nat_eq n seat) as (λ b. nat_eq n seat ≡ b → AreAlike (phase_of ((At seat Cancel, Cancelled) ∷ h) n) (phase_of k n)) [
        | true ↦ λ e. subst (λ m. AreAlike (phase_of ((At seat Cancel, Cancelled) ∷ h) m) (phase_of k m)) (sym (eqb-true n seat e)) own
        | false ↦ λ e. ap outline (other_phase h seat n Cancel Cancelled (λ is. not_same n seat e (sym is))) ∙ z.alike n (not_same n seat e)
      ] refl
