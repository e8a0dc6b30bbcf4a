-- All that the abstract store was asked is a merging of what the seats asked.
use Rattle.std.proofs.Common.{◌≡◌, ◌<◌, ◌+◌, arith, ℕ, zero, suc, nat_eq, Bool, true, false, cond, List, [], ◌∷◌, ◌++◌, map, reverse, Option, Some, None, MatchOption, refl, sym, ap, subst, ◌∙◌, append-nil}
use Rattle.std.specs.List.{slice_get, All, filter, cons_option, range_with_len}
use Rattle.std.proofs.lemmas.Bool.{eqb-true}
use Rattle.std.proofs.lemmas.List.{map-append, reverse-append}
use Rattle.std.proofs.lemmas.List.Elements.{All-nil, All-cons, All-append, filter-append}
use Rattle.gs_model.specs.declared.refusals.Refusal.{Refusal}
use Rattle.gs_model.specs.declared.refusals.Refusal.TheVariants.{BadSeat}
use Rattle.gs_event.specs.declared.events.Event.{Event}
use Rattle.gs_event.specs.declared.events.Event.TheVariants.{Seat, Reclaim}
use Rattle.gs_event.specs.declared.events.Action.{Action}
use Rattle.gs_event.specs.declared.events.Action.TheVariants.{Open, OpenPatch, Stage, Commit, CommitPatch, Delete, Head, Pin, Piece, Cancel}
use Rattle.gs_event.specs.declared.answers.Answer.{Answer}
use Rattle.gs_event.specs.declared.answers.Answer.TheVariants.{Opened, Staged, Status, Pinned, Lines, Cancelled, Refused}
use Rattle.gs_event.specs.Conditions.{Asked}
use Rattle.gs_event.specs.Phases.{Phase, Idle, Writing, Patching, Reading, operation_of}
use Rattle.gs_event.specs.Views.{SeatView, Fits, FitsSeat}
use Rattle.gs_event.specs.Histories.{History, OpenRead, Start, IsLegal, phase_of, phase_by, operation_by, points_of, seat_view, view_of}
use Rattle.gs_event.proofs.HistoryLemmas.{later}
use Rattle.gs_talk.specs.Seats.{SeatPhase, Point, phase_then, phase_in, point_numbered, asked_in}
use Rattle.gs_talk.proofs.ProgressLemmas.{phase-append, operations-append}
use Rattle.gs_world.specs.Happenings.{deed_at, deeds_at}
use Rattle.gs_world.specs.Merging.{Askings, asked_at, points_by, IsMerged}

-- the phase of a seat by the history is its phase by what was done at it

-- a phase, where it is not said what is left of a read
abbrev seat_phase : Phase OpenRead → SeatPhase
seat_phase Idle = Idle
seat_phase (Writing k r g since) = Writing k r g since
seat_phase (Patching t r since) = Patching t r since
seat_phase (Reading read) = Reading tt

pin_phase : (b : Bool) (read : OpenRead) → seat_phase (cond b (Reading read) Idle) ≡ cond b (Reading tt) Idle
pin_phase true read = refl
pin_phase false read = refl

piece_phase : (b : Bool) (read : OpenRead) → seat_phase (cond b Idle (Reading read)) ≡ cond b Idle (Reading tt)
piece_phase true read = refl
piece_phase false read = refl

-- after one more answer
then_phase : (before : History) (p : Phase OpenRead) (action : Action) (a : Answer) → seat_phase (later before p action a) ≡ phase_then (seat_phase p) (action, a)
then_phase before Idle (Open k since) (Opened r) = refl
then_phase before Idle (OpenPatch t since) (Opened r) = refl
then_phase before Idle (Pin c) (Pinned s number) = pin_phase (nat_eq s 200) record { scope = c; before = before; given = 0 }
then_phase before (Writing k r g since) (Stage ts) Staged = refl
then_phase before (Writing k r g since) Commit (Status s name number) = refl
then_phase before (Writing k r g since) Cancel Cancelled = refl
then_phase before (Patching t r since) (CommitPatch ops) (Status s name number) = refl
then_phase before (Patching t r since) Cancel Cancelled = refl
then_phase before (Reading read) (Piece n) (Lines b end) = piece_phase end record { scope = read.scope; before = read.before; given = read.given + n }
then_phase before (Reading read) Cancel Cancelled = refl
then_phase before p action a = refl

-- after one more event
event_phase : (seat : ℕ) (before : History) (p : Phase OpenRead) (e : Event) (a : Answer) → seat_phase (phase_by before seat p e a) ≡ phase_in (seat_phase p) (deed_at seat e a)
event_phase seat before p (Reclaim n) a = refl
event_phase seat before p (Seat s action) a = go (nat_eq s seat) where
  go : (b : Bool) → seat_phase (cond b (later before p action a) p) ≡ phase_in (seat_phase p) (cond b ((action, a) ∷ []) [])
  go true = then_phase before p action a
  go false = refl

history_phase : (seat : ℕ) (h : History) → seat_phase (phase_of h seat) ≡ phase_in Idle (deeds_at seat h)
history_phase seat [] = refl
history_phase seat (x ∷ before) =
    event_phase seat before (phase_of before seat) x.0 x.1
    ∙ ap (λ (p : SeatPhase). phase_in p (deed_at seat x.0 x.1)) (history_phase seat before)
    ∙ sym (phase-append Idle (deeds_at seat before) (deed_at seat x.0 x.1))

-- it asks the same
same_operation : (p : Phase OpenRead) (action : Action) (a : Answer) → operation_of (seat_phase p) action a ≡ operation_of p action a
same_operation Idle (Delete t since) (Status s name number) = refl
same_operation Idle (Head c) (Status s name number) = refl
same_operation Idle (Pin c) (Pinned s number) = refl
same_operation (Writing k r g since) Commit (Status s name number) = refl
same_operation (Patching t r since) (CommitPatch ops) (Status s name number) = refl
same_operation p action a = refl

-- what events ask

-- what an action at this phase asks
abbrev asks : SeatPhase → Action → Answer → Option Point
asks p action a = point_numbered p (operation_of p action a)

-- a point with its seat
abbrev at_seat : ℕ → Option Point → Askings
at_seat s None = []
at_seat s (Some q) = (s, q) ∷ []

-- what an event asks
abbrev asked_then : History → Event → Answer → Askings
asked_then before (Reclaim n) a = []
asked_then before (Seat s action) a = at_seat s (asks (phase_in Idle (deeds_at s before)) action a)

-- what all of them ask
abbrev all_asked : History → Askings
all_asked [] = []
all_asked (x ∷ before) = all_asked before ++ asked_then before x.0 x.1

-- their operations are the points of the history

abbrev operation_in : ℕ × Point → Asked
operation_in x = x.1.1

seat_operations : (s : ℕ) (p : SeatPhase) (o : Option Asked) → map operation_in (at_seat s (point_numbered p o)) ≡ cons_option o []
seat_operations s p None = refl
seat_operations s p (Some q) = refl

event_operations : (before : History) (e : Event) (a : Answer) → map operation_in (asked_then before e a) ≡ cons_option (operation_by before e a) []
event_operations before (Reclaim n) a = refl
event_operations before (Seat s action) a =
    seat_operations s (phase_in Idle (deeds_at s before)) (operation_of (phase_in Idle (deeds_at s before)) action a)
    ∙ ap (λ (p : SeatPhase). cons_option (operation_of p action a) []) (sym (history_phase s before))
    ∙ ap (λ (o : Option Asked). cons_option o []) (same_operation (phase_of before s) action a)

reverse_more : (o : Option Asked) (qs : List Asked) → reverse qs ++ cons_option o [] ≡ reverse (cons_option o qs)
reverse_more None qs = append-nil (reverse qs)
reverse_more (Some q) qs = sym (reverse-append (q ∷ []) qs)

all_operations : (h : History) → map operation_in (all_asked h) ≡ reverse (points_of h)
all_operations [] = refl
all_operations (x ∷ before) =
    map-append operation_in (all_asked before) (asked_then before x.0 x.1)
    ∙ ap (λ (qs : List Asked). map operation_in (all_asked before) ++ qs) (event_operations before x.0 x.1)
    ∙ ap (λ (qs : List Asked). qs ++ cons_option (operation_by before x.0 x.1) []) (all_operations before)
    ∙ reverse_more (operation_by before x.0 x.1) (points_of before)

-- those of a seat are what it asked

own_points : (s seat : ℕ) (o : Option Point) → nat_eq s seat ≡ true → points_by seat (at_seat s o) ≡ cons_option o []
own_points s seat None e = refl
own_points s seat (Some q) e = ap (λ (b : Bool). map (λ (x : ℕ × Point). x.1) (cond b ((s, q) ∷ []) [])) e

other_points : (s seat : ℕ) (o : Option Point) → nat_eq s seat ≡ false → points_by seat (at_seat s o) ≡ []
other_points s seat None e = refl
other_points s seat (Some q) e = ap (λ (b : Bool). map (λ (x : ℕ × Point). x.1) (cond b ((s, q) ∷ []) [])) e

event_points : (seat : ℕ) (before : History) (e : Event) (a : Answer) → points_by seat (asked_then before e a) ≡ asked_in (phase_in Idle (deeds_at seat before)) (deed_at seat e a)
event_points seat before (Reclaim n) a = refl
event_points seat before (Seat s action) a = go (nat_eq s seat) refl where
  go : (b : Bool) → nat_eq s seat ≡ b
      → points_by seat (at_seat s (asks (phase_in Idle (deeds_at s before)) action a)) ≡ asked_in (phase_in Idle (deeds_at seat before)) (cond b ((action, a) ∷ []) [])
  go true e =
      own_points s seat (asks (phase_in Idle (deeds_at s before)) action a) e
      ∙ ap (λ (n : ℕ). cons_option (asks (phase_in Idle (deeds_at n before)) action a) []) (eqb-true s seat e)
  go false e = other_points s seat (asks (phase_in Idle (deeds_at s before)) action a) e

points-append : (seat : ℕ) (xs ys : Askings) → points_by seat (xs ++ ys) ≡ points_by seat xs ++ points_by seat ys
points-append seat xs ys =
    ap (λ (zs : Askings). map (λ (x : ℕ × Point). x.1) zs) (filter-append (λ (x : ℕ × Point). nat_eq x.0 seat) xs ys)
    ∙ map-append (λ (x : ℕ × Point). x.1) (filter (λ (x : ℕ × Point). nat_eq x.0 seat) xs) (filter (λ (x : ℕ × Point). nat_eq x.0 seat) ys)

all_points : (seat : ℕ) (h : History) → points_by seat (all_asked h) ≡ asked_at seat h
all_points seat [] = refl
all_points seat (x ∷ before) =
    points-append seat (all_asked before) (asked_then before x.0 x.1)
    ∙ ap (λ (qs : List Point). qs ++ points_by seat (asked_then before x.0 x.1)) (all_points seat before)
    ∙ ap (λ (qs : List Point). asked_at seat before ++ qs) (event_points seat before x.0 x.1)
    ∙ sym (operations-append Idle (deeds_at seat before) (deed_at seat x.0 x.1))

-- each is of a seat that is there

refused_asks : (p : SeatPhase) (action : Action) (why : Refusal) → operation_of p action (Refused why) ≡ None
refused_asks Idle (Delete t since) why = refl
refused_asks Idle (Head c) why = refl
refused_asks Idle (Pin c) why = refl
refused_asks (Writing k r g since) Commit why = refl
refused_asks (Patching t r since) (CommitPatch ops) why = refl
refused_asks p action why = refl

place_below : {X : Type 0} (f : ℕ → X) (a n s : ℕ) (x : X) → slice_get (map f (range_with_len a n)) s ≡ Some x → s < n
place_below f a zero s x e = cc
place_below f a (suc n) zero x e = omega arith
place_below f a (suc n) (suc s) x e = omega (arith, place_below f (a + 1) n s x e)

-- the seats of these askings are below a bound
abbrev AreBelow : ℕ → Askings → Type 0
AreBelow n qs = All (λ (x : ℕ × Point). x.0 < n) qs

none_below : (n : ℕ) → AreBelow n []
none_below n = All-nil (λ (x : ℕ × Point). x.0 < n)

seat_below : (n s : ℕ) (o : Option Point) → s < n → AreBelow n (at_seat s o)
seat_below n s None l = none_below n
seat_below n s (Some q) l = All-cons (λ (x : ℕ × Point). x.0 < n) (s, q) [] l (none_below n)

event_below : (start : Start) (before : History) (e : Event) (a : Answer) → Fits (view_of start before) e a → AreBelow start.seats (asked_then before e a)
event_below start before (Reclaim n) a f = none_below start.seats
event_below start before (Seat s action) a f = go (slice_get (view_of start before).seats s) refl f where
  refused : a ≡ Refused BadSeat → AreBelow start.seats (at_seat s (asks (phase_in Idle (deeds_at s before)) action a))
  refused e =
      subst (λ (o : Option Asked). AreBelow start.seats (at_seat s (point_numbered (phase_in Idle (deeds_at s before)) o)))
      (sym (ap (λ (b : Answer). operation_of (phase_in Idle (deeds_at s before)) action b) e ∙ refused_asks (phase_in Idle (deeds_at s before)) action BadSeat))
      (none_below start.seats)

  go : (o : Option SeatView) → slice_get (view_of start before).seats s ≡ o → MatchOption o (a ≡ Refused BadSeat) (λ v. FitsSeat (view_of start before).totals v action a)
      → AreBelow start.seats (at_seat s (asks (phase_in Idle (deeds_at s before)) action a))
  go None e k = refused k
  go (Some v) e k = seat_below start.seats s (asks (phase_in Idle (deeds_at s before)) action a) (place_below (λ (n : ℕ). seat_view start (phase_of before n)) 0 start.seats s v e)

all_below : (start : Start) (h : History) → IsLegal start h → AreBelow start.seats (all_asked h)
all_below start [] legal = none_below start.seats
all_below start (x ∷ before) legal =
    All-append (λ (y : ℕ × Point). y.0 < start.seats) (all_asked before) (asked_then before x.0 x.1) (all_below start before legal.0) (event_below start before x.0 x.1 legal.1)

-- What a legal history asks is a merging of what the seats asked.
pub history_merges : (start : Start) (h : History) → IsLegal start h → IsMerged start.seats h
history_merges start h legal = record {
  askings = all_asked h;
  whole = all_operations h;
  parts = λ seat. all_points seat h;
  there = all_below start h legal;
}
