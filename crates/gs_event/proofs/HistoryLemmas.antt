-- What a store shows after a history and one more answer is the next view of what it showed.
use Rattle.std.proofs.Common.{◌≡◌, ◌≢◌, ℕ, zero, suc, ◌+◌, Bool, true, false, cond, nat_eq, List, ◌∷◌, map, drop, Option, Some, None, MatchOption, refl, sym, ap, ◌∙◌, arith, unwrap_or}
use Rattle.std.specs.List.{slice_get, slice_set, range_with_len, count_by, cons_option}
use Rattle.std.proofs.Common.{add-zero, zero-add, ◌≤◌}
use Rattle.std.proofs.lemmas.Bool.{ne_eqb, eq-eqb}
use Rattle.std.proofs.lemmas.List.{drop-drop}
use Rattle.std.proofs.lemmas.List.Sums.{sum_by-cons}
use Rattle.gs_event.specs.declared.events.Scope.{Scope}
use Rattle.gs_model.specs.declared.refusals.Refusal.{Refusal}
use Rattle.gs_model.specs.declared.refusals.Refusal.TheVariants.{BadSeat}
use Rattle.gs_event.specs.declared.events.Action.{Action}
use Rattle.gs_event.specs.declared.events.Action.TheVariants.{Open, OpenPatch, Stage, Commit, CommitPatch, Delete, Head, Pin, Piece, Cancel}
use Rattle.gs_event.specs.declared.events.Event.{Event}
use Rattle.gs_event.specs.declared.events.Event.TheVariants.{Seat as At, Reclaim}
use Rattle.gs_event.specs.declared.answers.Answer.{Answer}
use Rattle.gs_event.specs.declared.answers.Answer.TheVariants.{Opened, Staged, Status, Pinned, Lines, Cancelled, Reclaimed, Refused}
use Rattle.gs_event.specs.Datasets.{lines_in}
use Rattle.gs_event.specs.Conditions.{Asked, after_all_if}
use Rattle.gs_event.specs.Phases.{Phase, Idle, Writing, Patching, Reading, phase_after, operation_of}
use Rattle.gs_event.specs.Views.{SeatView, Fits, FitsSeat, answers_opened, after_asked, next_view, next_at, next_if}
use Rattle.gs_event.specs.Histories.{History, OpenRead, phase_of, phase_by, points_of, state_after, dataset_after, lines_left, seat_view, Start, view_of}

-- a seat's phase by its history, with one more answer
abbrev pub later : History → Phase OpenRead → Action → Answer → Phase OpenRead
later before = phase_after (λ c. record { scope = c; before = before; given = 0 }) (λ r n. record { scope = r.scope; before = r.before; given = r.given + n })

same_operation : (w : Start) (p : Phase OpenRead) (action : Action) (a : Answer) → operation_of (seat_view w p) action a ≡ operation_of p action a
same_operation w Idle (Delete t since) (Status s name number) = refl
same_operation w Idle (Head t) (Status s name number) = refl
same_operation w Idle (Pin t) (Pinned s number) = refl
same_operation w (Writing t r g since) Commit (Status s name number) = refl
same_operation w (Patching t r since) (CommitPatch ops) (Status s name number) = refl
same_operation w p action a = refl

pinned_view : (w : Start) (b : Bool) (h : History) (c : Scope) → seat_view w (cond b (Reading (record { scope = c; before = h; given = 0 })) Idle) ≡ cond b (Reading (lines_in (dataset_after w h) c)) Idle
pinned_view w true h c = refl
pinned_view w false h c = refl

given_view : (w : Start) (b : Bool) (r : OpenRead) (n : ℕ) → seat_view w (cond b Idle (Reading (record { scope = r.scope; before = r.before; given = r.given + n }))) ≡ cond b Idle (Reading (drop n (lines_left w r)))
given_view w true r n = refl
given_view w false r n = ap Reading (sym (drop-drop n r.given _))

-- the table of phases says the same of a history and of what is seen
pub same_phase : (w : Start) (h : History) (p : Phase OpenRead) (action : Action) (a : Answer) → seat_view w (later h p action a) ≡ phase_after (lines_in (dataset_after w h)) (λ left n. drop n left) (seat_view w p) action a
same_phase w h Idle (Open k since) (Opened r) = refl
same_phase w h Idle (OpenPatch t since) (Opened r) = refl
same_phase w h Idle (Pin t) (Pinned s number) = pinned_view w (nat_eq s 200) h t
same_phase w h (Writing t r g since) (Stage ts) Staged = refl
same_phase w h (Writing t r g since) Commit (Status s name number) = refl
same_phase w h (Writing t r g since) Cancel Cancelled = refl
same_phase w h (Patching t r since) (CommitPatch ops) (Status s name number) = refl
same_phase w h (Patching t r since) Cancel Cancelled = refl
same_phase w h (Reading x) (Piece n) (Lines b end) = given_view w end x n
same_phase w h (Reading x) Cancel Cancelled = refl
same_phase w h p action a = refl

after_cons : (w : Start) (q : Option Asked) (qs : List Asked) → after_all_if w.setting w.commit (cons_option q qs) ≡ after_asked w.setting (after_all_if w.setting w.commit qs) q
after_cons w None qs = refl
after_cons w (Some q) qs = refl

-- two lists by index that agree from a on
pub same_after : {X : Type 0} (f g : ℕ → X) (a n : ℕ) → ((k : ℕ) → a ≤ k → g k ≡ f k) → map g (range_with_len a n) ≡ map f (range_with_len a n)
same_after f g a zero alike = refl
same_after f g a (suc n) alike =
    let here : g a ≡ f a = alike a (omega arith) in
    let rest : map g (range_with_len (a + 1) n) ≡ map f (range_with_len (a + 1) n) = same_after f g (a + 1) n (λ k le. alike k (omega arith)) in
    cc

-- a list by index, changed at one place
pub changed_at : {X : Type 0} (f g : ℕ → X) (a n s : ℕ) (x : X) → g (a + s) ≡ x → ((k : ℕ) → k ≢ a + s → g k ≡ f k) → map g (range_with_len a n) ≡ slice_set (map f (range_with_len a n)) s x
changed_at f g a zero s x at others = refl
changed_at f g a (suc n) zero x at others =
    let here : g a ≡ x = rw (add-zero a) at at in
    let rest : map g (range_with_len (a + 1) n) ≡ map f (range_with_len (a + 1) n) = same_after f g (a + 1) n (λ k le. others k (λ e. absurd (omega arith))) in
    cc
changed_at f g a (suc n) (suc s) x at others =
    let here : g a ≡ f a = others a (λ e. absurd (omega arith)) in
    let more : a + suc s ≡ a + 1 + s = omega arith in
    let rest : map g (range_with_len (a + 1) n) ≡ slice_set (map f (range_with_len (a + 1) n)) s x = changed_at f g (a + 1) n s x (rw more at at) (λ k ne. others k (λ e. ne (omega arith))) in
    cc

-- the element at a place of a list by index
pub at_place : {X : Type 0} (f : ℕ → X) (a n s : ℕ) (x : X) → slice_get (map f (range_with_len a n)) s ≡ Some x → f (a + s) ≡ x
at_place f a zero s x e = absurd (cc)
at_place f a (suc n) zero x e = rw (add-zero a) (ap (λ o. unwrap_or o x) e)
at_place f a (suc n) (suc s) x e =
    let more : a + suc s ≡ a + 1 + s = omega arith in
    rw more (at_place f (a + 1) n s x e)

other_seat : (w : Start) (h : History) (s k : ℕ) (action : Action) (a : Answer) → k ≢ s → seat_view w (phase_by h k (phase_of h k) (At s action) a) ≡ seat_view w (phase_of h k)
other_seat w h s k action a ne =
    let apart : nat_eq s k ≡ false = ne_eqb s k (λ e. ne (sym e)) in
    rw apart

own_seat : (w : Start) (h : History) (s : ℕ) (action : Action) (a : Answer) → seat_view w (phase_by h s (phase_of h s) (At s action) a) ≡ phase_after (lines_in (dataset_after w h)) (λ left n. drop n left) (seat_view w (phase_of h s)) action a
own_seat w h s action a =
    let same : nat_eq s s ≡ true = eq-eqb s s refl in
    rw same (same_phase w h (phase_of h s) action a)

pub refused_phase : {R : Type 0} (f : Scope → R) (g : R → ℕ → R) (p : Phase R) (action : Action) (r : Refusal) → phase_after f g p action (Refused r) ≡ p
refused_phase f g Idle (Open k since) r = refl
refused_phase f g Idle (OpenPatch t since) r = refl
refused_phase f g Idle (Pin t) r = refl
refused_phase f g (Writing t n x since) (Stage ts) r = refl
refused_phase f g (Writing t n x since) Commit r = refl
refused_phase f g (Writing t n x since) Cancel r = refl
refused_phase f g (Patching t n since) (CommitPatch ops) r = refl
refused_phase f g (Patching t n since) Cancel r = refl
refused_phase f g (Reading x) (Piece n) r = refl
refused_phase f g (Reading x) Cancel r = refl
refused_phase f g p action r = refl

refused_operation : {R : Type 0} (p : Phase R) (action : Action) (r : Refusal) → operation_of p action (Refused r) ≡ None
refused_operation Idle (Delete t since) r = refl
refused_operation Idle (Head t) r = refl
refused_operation Idle (Pin t) r = refl
refused_operation (Writing t n x since) Commit r = refl
refused_operation (Patching t n since) (CommitPatch ops) r = refl
refused_operation p action r = refl

counted : (test : Answer → Bool) (n : ℕ) (h : History) (e : Event) (a : Answer) → n + count_by (λ x. test x.1) ((e, a) ∷ h) ≡ n + count_by (λ x. test x.1) h + cond (test a) 1 0
counted test n h e a = omega (arith, sum_by-cons (λ (x : Event × Answer). cond (test x.1) 1 0) (e, a) h)

-- one more answer to a seat that there is
next_seen : (start : Start) (h : History) (s : ℕ) (action : Action) (a : Answer) (p : SeatView) → seat_view start (phase_of h s) ≡ p → view_of start ((At s action, a) ∷ h) ≡ next_at (view_of start h) s p action a
next_seen start h s action a p is =
    let asked : state_after start ((At s action, a) ∷ h) ≡ after_asked start.setting (state_after start h) (operation_of p action a) =
    after_cons start (operation_of (phase_of h s) action a) (points_of h) ∙ ap (after_asked start.setting (state_after start h)) (sym (same_operation start (phase_of h s) action a) ∙ ap (λ q. operation_of q action a) is) in
    let opened = counted answers_opened start.request h (At s action) a in
    let own : seat_view start (phase_by h s (phase_of h s) (At s action) a) ≡ phase_after (lines_in (dataset_after start h)) (λ left n. drop n left) p action a =
    own_seat start h s action a ∙ ap (λ q. phase_after (lines_in (dataset_after start h)) (λ left n. drop n left) q action a) is in
    let seats = changed_at (λ k. seat_view start (phase_of h k)) (λ k. seat_view start (phase_by h k (phase_of h k) (At s action) a)) 0 start.seats s (phase_after (lines_in (dataset_after start h)) (λ left n. drop n left) p action a) (rw (zero-add s) own) (λ k ne. other_seat start h s k action a (λ e. ne (e ∙ sym (zero-add s)))) in
    λ i. record { totals = record { setting = start.setting; dataset = (asked i).dataset; request = opened i; commit = (asked i).commit; last_writes = (asked i).last_writes }; seats = seats i }

-- a refusal changes nothing that is seen
refused_seen : (start : Start) (h : History) (s : ℕ) (action : Action) (r : Refusal) → view_of start ((At s action, Refused r) ∷ h) ≡ view_of start h
refused_seen start h s action r =
    let asked : state_after start ((At s action, Refused r) ∷ h) ≡ state_after start h = rw (refused_operation (phase_of h s) action r) in
    let opened : start.request + count_by (λ (x : Event × Answer). answers_opened x.1) ((At s action, Refused r) ∷ h) ≡ start.request + count_by (λ (x : Event × Answer). answers_opened x.1) h = omega (arith, counted answers_opened start.request h (At s action) (Refused r)) in
    let seats = same_after (λ k. seat_view start (phase_of h k)) (λ k. seat_view start (phase_by h k (phase_of h k) (At s action) (Refused r))) 0 start.seats (λ k _. same_seat k) in
    λ i. record { totals = record { setting = start.setting; dataset = (asked i).dataset; request = opened i; commit = (asked i).commit; last_writes = (asked i).last_writes }; seats = seats i }
  where
    same_seat : (k : ℕ) → seat_view start (phase_by h k (phase_of h k) (At s action) (Refused r)) ≡ seat_view start (phase_of h k)
    same_seat k =
        elim (nat_eq s k) as (λ b. seat_view start (cond b (later h (phase_of h k) action (Refused r)) (phase_of h k)) ≡ seat_view start (phase_of h k)) [
          | true ↦ ap (seat_view start) (refused_phase _ _ (phase_of h k) action r)
          | false ↦ refl
        ]

-- whether or not there is such a seat
next_if_seen : (start : Start) (h : History) (s : ℕ) (action : Action) (a : Answer) (o : Option SeatView) → slice_get (view_of start h).seats s ≡ o → MatchOption o (a ≡ Refused BadSeat) (λ p. FitsSeat (view_of start h).totals p action a) → view_of start ((At s action, a) ∷ h) ≡ next_if (view_of start h) s o action a
next_if_seen start h s action a None is fits = ap (λ r. view_of start ((At s action, r) ∷ h)) fits ∙ refused_seen start h s action BadSeat
next_if_seen start h s action a (Some p) is fits = next_seen start h s action a p (rw (← zero-add s) (at_place (λ k. seat_view start (phase_of h k)) 0 start.seats s p is))

-- what is shown after one more answer that fits
pub view_of-cons : (start : Start) (h : History) (e : Event) (a : Answer) → Fits (view_of start h) e a → view_of start ((e, a) ∷ h) ≡ next_view (view_of start h) e a
view_of-cons start h (Reclaim n) (Reclaimed freed left) fits =
    let opened : start.request + count_by (λ (x : Event × Answer). answers_opened x.1) ((Reclaim n, Reclaimed freed left) ∷ h) ≡ start.request + count_by (λ (x : Event × Answer). answers_opened x.1) h = omega (arith, counted answers_opened start.request h (Reclaim n) (Reclaimed freed left)) in
    λ i. record {
      totals = record { setting = start.setting; dataset = dataset_after start h; request = opened i; commit = (state_after start h).commit; last_writes = (state_after start h).last_writes };
      seats = (view_of start h).seats;
    }
view_of-cons start h (Reclaim n) a fits = absurd fits
view_of-cons start h (At s action) a fits = next_if_seen start h s action a (slice_get (view_of start h).seats s) refl fits
