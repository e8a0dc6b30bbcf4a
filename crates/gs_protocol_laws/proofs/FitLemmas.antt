-- What the answers of a legal history say of its phases, and of the statuses of what was asked.
use Rattle.std.proofs.Common.{◌≡◌, ◌⊎◌, inl, inr, ℕ, zero, suc, ◌+◌, ◌<◌, Bool, true, false, cond, List, [], ◌∷◌, ◌++◌, map, Option, Some, None, MatchOption, refl, sym, ap, ◌∙◌, subst, arith, add-zero, zero-add}
use Rattle.std.specs.List.{slice_get, range_with_len}
use Rattle.gs_event.specs.declared.events.Scope.{Scope}
use Rattle.gs_model.specs.declared.refusals.Refusal.{Refusal}
use Rattle.gs_model.specs.declared.refusals.Refusal.TheVariants.{BadSeat}
use Rattle.gs_event.specs.declared.events.Action.{Action}
use Rattle.gs_event.specs.declared.events.Action.TheVariants.{Commit, CommitPatch, Delete, Head, Pin}
use Rattle.gs_event.specs.declared.events.Event.{Event}
use Rattle.gs_event.specs.declared.events.Event.TheVariants.{Seat as At, Reclaim}
use Rattle.gs_event.specs.declared.answers.Answer.{Answer}
use Rattle.gs_event.specs.declared.answers.Answer.TheVariants.{Status, Pinned, Refused}
use Rattle.gs_event.specs.Datasets.{has}
use Rattle.gs_event.specs.Operations.{Patches, Deletes, Looks, Reads, status_of, location_of, is_success}
use Rattle.gs_event.specs.Conditions.{Asked, asked_since, status_if, location_if, number_if}
use Rattle.gs_event.specs.Phases.{Phase, Idle, Writing, Patching, Reading, write_of, operation_of}
use Rattle.gs_event.specs.Views.{Totals, state_of, SeatView, Fits, FitsSeat, is_written}
use Rattle.gs_event.specs.Histories.{History, OpenRead, Start, IsLegal, phase_of, operation_by, seat_view, view_of, dataset_after, state_after, commit_after}
use Rattle.gs_event.proofs.HistoryLemmas.{at_place}
use Rattle.gs_protocol_laws.specs.ReadBack.{name_answered}

-- An earlier part of a legal history is legal
pub legal_before : (start : Start) (before later : History) → IsLegal start (later ++ before) → IsLegal start before
legal_before start before [] legal = legal
legal_before start before (x ∷ later) legal = legal_before start before later legal.0

-- An answer that fits a seat's action fits its phase, or says that there is no such seat.
pub fits_phase : (start : Start) (h : History) (s : ℕ) (action : Action) (a : Answer) → Fits (view_of start h) (At s action) a
    → (a ≡ Refused BadSeat) ⊎ FitsSeat (view_of start h).totals (seat_view start (phase_of h s)) action a
fits_phase start h s action a f = go (slice_get (view_of start h).seats s) refl f where
  go : (o : Option SeatView) → slice_get (view_of start h).seats s ≡ o → MatchOption o (a ≡ Refused BadSeat) (λ p. FitsSeat (view_of start h).totals p action a)
      → (a ≡ Refused BadSeat) ⊎ FitsSeat (view_of start h).totals (seat_view start (phase_of h s)) action a
  go None is k = inl k
  go (Some p) is k = inr (subst (λ q. FitsSeat (view_of start h).totals q action a)
      (sym (rw (← zero-add s) (at_place (λ n. seat_view start (phase_of h n)) 0 start.seats s p is))) k)

-- at a seat that there is, it fits the phase
at_index : {X : Type 0} (f : ℕ → X) (a n s : ℕ) → s < n → slice_get (map f (range_with_len a n)) s ≡ Some (f (a + s))
at_index f a zero s lt = absurd (omega arith)
at_index f a (suc n) zero lt = ap (λ k. Some (f k)) (sym (add-zero a))
at_index f a (suc n) (suc s) lt =
    let more : a + 1 + s ≡ a + suc s = omega arith in
    at_index f (a + 1) n s (omega arith) ∙ ap (λ k. Some (f k)) more

seat_seen : (start : Start) (h : History) (s : ℕ) → s < start.seats → slice_get (view_of start h).seats s ≡ Some (seat_view start (phase_of h s))
seat_seen start h s there =
    at_index (λ n. seat_view start (phase_of h n)) 0 start.seats s there ∙ ap (λ n. Some (seat_view start (phase_of h n))) (zero-add s)

pub fits_there : (start : Start) (h : History) (s : ℕ) (action : Action) (a : Answer) → s < start.seats → Fits (view_of start h) (At s action) a
    → FitsSeat (view_of start h).totals (seat_view start (phase_of h s)) action a
fits_there start h s action a there f =
    subst (λ o. MatchOption o (a ≡ Refused BadSeat) (λ p. FitsSeat (view_of start h).totals p action a)) (seat_seen start h s there) f

-- and what fits the phase fits there
pub there_fits : (start : Start) (h : History) (s : ℕ) (action : Action) (a : Answer) → s < start.seats
    → FitsSeat (view_of start h).totals (seat_view start (phase_of h s)) action a → Fits (view_of start h) (At s action) a
there_fits start h s action a there f =
    subst (λ o. MatchOption o (a ≡ Refused BadSeat) (λ p. FitsSeat (view_of start h).totals p action a)) (sym (seat_seen start h s there)) f

-- a refusal asks nothing
refused_asks : (p : Phase OpenRead) (action : Action) (r : Refusal) → operation_of p action (Refused r) ≡ None
refused_asks Idle (Delete t condition) r = refl
refused_asks Idle (Head c) r = refl
refused_asks Idle (Pin c) r = refl
refused_asks (Writing k n g since) Commit r = refl
refused_asks (Patching t n since) (CommitPatch ops) r = refl
refused_asks p action r = refl

-- What an answer tells of what was asked: whether it took effect, its status, its name and its number.
pub record Tells (v : Totals) (q : Asked) (a : Answer) : Type 0 where
  pub success : is_success (status_if v.setting (state_of v) q) ≡ is_written a
  pub status : (s : ℕ) (name : Option (List ℕ)) (number : ℕ) → a ≡ Status s name number → s ≡ status_if v.setting (state_of v) q
  pub name : (s : ℕ) (name : Option (List ℕ)) (number : ℕ) → a ≡ Status s name number → name ≡ location_if v.setting (state_of v) q
  pub number : (s : ℕ) (name : Option (List ℕ)) (number : ℕ) → a ≡ Status s name number → number ≡ number_if v.setting (state_of v) q

same_asked : (r q : Asked) → Some r ≡ Some q → r ≡ q
same_asked r q is = cc

status_tells : (v : Totals) (r q : Asked) (s : ℕ) (name : Option (List ℕ)) (number : ℕ) → Some r ≡ Some q → s ≡ status_if v.setting (state_of v) r → name ≡ location_if v.setting (state_of v) r
    → number ≡ number_if v.setting (state_of v) r → Tells v q (Status s name number)
status_tells v r q s name number is e f g = subst (λ p. Tells v p (Status s name number)) (same_asked r q is) (record {
  success = ap is_success (sym e);
  status = λ n k m same. let here : n ≡ s = cc in here ∙ e;
  name = λ n k m same. let here : k ≡ name = cc in here ∙ f;
  number = λ n k m same. let here : m ≡ number = cc in here ∙ g;
})

-- a question takes no effect
pub asked_only : (b : Bool) → is_success (cond b 200 404) ≡ false
asked_only true = refl
asked_only false = refl

-- its number is that of the last commit
look_number : (v : Totals) (c : Scope) → v.commit ≡ number_if v.setting (state_of v) (asked_since None (Looks c))
look_number v c = sym (ap (λ b. cond b (v.commit + 1) v.commit) (asked_only (has v.dataset c)))

read_tells : (v : Totals) (c : Scope) (s number : ℕ) (q : Asked) → Some (asked_since None (Reads c)) ≡ Some q → Tells v q (Pinned s number)
read_tells v c s number q is = subst (λ p. Tells v p (Pinned s number)) (same_asked (asked_since None (Reads c)) q is) (record {
  success = asked_only (has v.dataset c);
  status = λ n k m same. absurd (cc);
  name = λ n k m same. absurd (cc);
  number = λ n k m same. absurd (cc);
})

phase_tells : (v : Totals) (w : Start) (p : Phase OpenRead) (action : Action) (a : Answer) (q : Asked) → FitsSeat v (seat_view w p) action a → operation_of p action a ≡ Some q → Tells v q a
phase_tells v w Idle (Delete t condition) (Status s name number) q f is = status_tells v (asked_since condition (Deletes t)) q s name number is f.0 f.1 (f.3)
phase_tells v w Idle (Head c) (Status s name number) q f is = status_tells v (asked_since None (Looks c)) q s name number is f.0 f.1 (f.2 ∙ look_number v c)
phase_tells v w Idle (Pin c) (Pinned s number) q f is = read_tells v c s number q is
phase_tells v w (Writing k r g since) Commit (Status s name number) q f is = status_tells v (asked_since since (write_of k r g)) q s name number is f.0 f.1 (f.3)
phase_tells v w (Patching t r since) (CommitPatch ops) (Status s name number) q f is = status_tells v (asked_since since (Patches t ops.items)) q s name number is f.0 f.1 (f.3)
phase_tells v w p action a q f is = absurd (cc)

-- Of an event of a legal history they are told.
pub event_tells : (start : Start) (h : History) (e : Event) (a : Answer) (q : Asked) → IsLegal start ((e, a) ∷ h) → operation_by h e a ≡ Some q → Tells (view_of start h).totals q a
event_tells start h (Reclaim n) a q legal is = absurd (cc)
event_tells start h (At s action) a q legal is = go (fits_phase start h s action a legal.1) where
  go : (a ≡ Refused BadSeat) ⊎ FitsSeat (view_of start h).totals (seat_view start (phase_of h s)) action a → Tells (view_of start h).totals q a
  go (inl e) =
      let none : operation_of (phase_of h s) action a ≡ None = ap (operation_of (phase_of h s) action) e ∙ refused_asks (phase_of h s) action BadSeat in
      let clash : None ≡ Some q = sym none ∙ is in
      absurd (cc)
  go (inr k) = phase_tells (view_of start h).totals start (phase_of h s) action a q k is

-- What was answered 201 or 204 took effect.
pub took_effect : (start : Start) (h : History) (x : Event × Answer) (q : Asked) → IsLegal start (x ∷ h) → operation_by h x.0 x.1 ≡ Some q → is_written x.1 ≡ true
    → is_success (status_if start.setting (state_after start h) q) ≡ true
took_effect start h x q legal is e = (event_tells start h x.0 x.1 q legal is).success ∙ e

-- The name that was answered is the one that was made up.
name_told : (v : Totals) (q : Asked) (a : Answer) (n : List ℕ) → Tells v q a → name_answered a ≡ Some n → location_if v.setting (state_of v) q ≡ Some n
name_told v q (Status s name number) n k e = sym (k.name s name number refl) ∙ e
name_told v q a n k e = absurd (cc)

pub name_made : (start : Start) (h : History) (x : Event × Answer) (q : Asked) (n : List ℕ) → IsLegal start (x ∷ h) → operation_by h x.0 x.1 ≡ Some q → name_answered x.1 ≡ Some n
    → location_of start.setting (dataset_after start h) q.operation ≡ Some n
name_made start h x q n legal is e = name_told (view_of start h).totals q x.1 n (event_tells start h x.0 x.1 q legal is) e

head_fits : (v : Totals) (w : Start) (p : Phase OpenRead) (c : Scope) (s : ℕ) (name : Option (List ℕ)) (number : ℕ) → FitsSeat v (seat_view w p) (Head c) (Status s name number) → (s ≡ status_of v.setting v.dataset (Looks c)) × (number ≡ v.commit)
head_fits v w Idle c s name number f = (f.0, f.2)
head_fits v w (Writing k r g since) c s name number f = absurd f
head_fits v w (Patching u r since) c s name number f = absurd f
head_fits v w (Reading r) c s name number f = absurd f

-- The status of a HEAD is that of a look, and its number that of the last commit.
pub head_told : (start : Start) (h : History) (seat : ℕ) (c : Scope) (s : ℕ) (name : Option (List ℕ)) (number : ℕ) → IsLegal start ((At seat (Head c), Status s name number) ∷ h)
    → (s ≡ status_of start.setting (dataset_after start h) (Looks c)) × (number ≡ commit_after start h)
head_told start h seat c s name number legal = go (fits_phase start h seat (Head c) (Status s name number) legal.1) where
  go : (Status s name number ≡ Refused BadSeat) ⊎ FitsSeat (view_of start h).totals (seat_view start (phase_of h seat)) (Head c) (Status s name number)
      → (s ≡ status_of start.setting (dataset_after start h) (Looks c)) × (number ≡ commit_after start h)
  go (inl e) = absurd (cc)
  go (inr k) = head_fits (view_of start h).totals start (phase_of h seat) c s name number k

pub head_status : (start : Start) (h : History) (seat : ℕ) (c : Scope) (s : ℕ) (name : Option (List ℕ)) (number : ℕ) → IsLegal start ((At seat (Head c), Status s name number) ∷ h)
    → s ≡ status_of start.setting (dataset_after start h) (Looks c)
head_status start h seat c s name number legal = (head_told start h seat c s name number legal).0

-- a read begins where the seat is idle
pub record Begins (v : Totals) (p : Phase OpenRead) (c : Scope) (s number : ℕ) : Type 0 where
  pub idle : p ≡ Idle
  pub status : s ≡ status_of v.setting v.dataset (Reads c)
  pub number_is : number ≡ v.commit

pin_fits : (v : Totals) (w : Start) (p : Phase OpenRead) (c : Scope) (s number : ℕ) → FitsSeat v (seat_view w p) (Pin c) (Pinned s number) → Begins v p c s number
pin_fits v w Idle c s number f = record { idle = refl; status = f.0; number_is = f.1 }
pin_fits v w (Writing k r g since) c s number f = absurd f
pin_fits v w (Patching u r since) c s number f = absurd f
pin_fits v w (Reading r) c s number f = absurd f

pub pin_begins : (start : Start) (h : History) (seat : ℕ) (c : Scope) (s number : ℕ) → IsLegal start ((At seat (Pin c), Pinned s number) ∷ h)
    → Begins (view_of start h).totals (phase_of h seat) c s number
pin_begins start h seat c s number legal = go (fits_phase start h seat (Pin c) (Pinned s number) legal.1) where
  go : (Pinned s number ≡ Refused BadSeat) ⊎ FitsSeat (view_of start h).totals (seat_view start (phase_of h seat)) (Pin c) (Pinned s number)
      → Begins (view_of start h).totals (phase_of h seat) c s number
  go (inl e) = absurd (cc)
  go (inr k) = pin_fits (view_of start h).totals start (phase_of h seat) c s number k

-- The status of a GET is that of a read.
pub pin_status : (start : Start) (h : History) (seat : ℕ) (c : Scope) (s number : ℕ) → IsLegal start ((At seat (Pin c), Pinned s number) ∷ h)
    → s ≡ status_of start.setting (dataset_after start h) (Reads c)
pin_status start h seat c s number legal = (pin_begins start h seat c s number legal).status

-- The seat was idle.
pub pin_idle : (start : Start) (h : History) (seat : ℕ) (c : Scope) (s number : ℕ) → IsLegal start ((At seat (Pin c), Pinned s number) ∷ h) → phase_of h seat ≡ Idle
pin_idle start h seat c s number legal = (pin_begins start h seat c s number legal).idle
