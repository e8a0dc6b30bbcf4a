-- The numbers of a seat's requests rise, and no two seats have one in common.
use Rattle.std.proofs.Common.{◌≡◌, ◌≢◌, ◌≤◌, ◌<◌, inl, inr, ◌⊎◌, arith, ℕ, ◌+◌, nat_eq, Bool, true, false, cond, List, [], ◌∷◌, ◌++◌, Option, Some, None, MatchOption, refl, sym, ap, subst, ◌∙◌, append-nil, append_assoc}
use Rattle.std.specs.List.{slice_get, All, Contains}
use Rattle.std.proofs.lemmas.Bool.{eqb-true}
use Rattle.std.proofs.lemmas.List.Elements.{All-nil, All-cons, All-contains, Contains-append_left, Contains-push_cases}
use Rattle.std.proofs.lemmas.List.Sums.{sum_by-cons}
use Rattle.gs_model.specs.declared.refusals.Refusal.TheVariants.{BadSeat}
use Rattle.gs_event.specs.declared.events.UploadKind.{UploadKind}
use Rattle.gs_event.specs.declared.events.UploadKind.TheVariants.{Put, Post, New}
use Rattle.gs_event.specs.declared.events.Event.{Event}
use Rattle.gs_event.specs.declared.events.Event.TheVariants.{Seat, Reclaim}
use Rattle.gs_event.specs.declared.events.Action.{Action}
use Rattle.gs_event.specs.declared.events.Action.TheVariants.{Open, OpenPatch, Stage, Commit, CommitPatch, Delete, Head, Pin, Piece, Cancel}
use Rattle.gs_event.specs.declared.answers.Answer.{Answer}
use Rattle.gs_event.specs.declared.answers.Answer.TheVariants.{Opened, Staged, Status, Pinned, Lines, Cancelled, Refused}
use Rattle.gs_event.specs.Conditions.{asked_since}
use Rattle.gs_event.specs.Phases.{Idle, Writing, Patching, Reading, write_of}
use Rattle.gs_event.specs.Views.{Totals, SeatView, View, Fits, FitsSeat, answers_opened}
use Rattle.gs_event.specs.Histories.{History, Start, IsLegal, view_of}
use Rattle.gs_model.specs.Graphs.{Graph}
use Rattle.gs_talk.specs.Seats.{Deeds, SeatPhase, Point, phase_in, asked_in}
use Rattle.gs_talk.proofs.ProgressLemmas.{phase-append, operations-append}
use Rattle.gs_world.specs.Happenings.{deed_at, deeds_at}
use Rattle.gs_world.specs.Nodes.{brings, numbers_bringing, request_numbers, RiseFrom}

-- numbers that rise

-- they rise from above lo, to at most hi
abbrev RiseWithin : ℕ → ℕ → List ℕ → Type 0
RiseWithin lo hi [] = lo ≤ hi
RiseWithin lo hi (m ∷ ms) = (lo < m) × RiseWithin m hi ms

-- they rise
just_rise : (lo hi : ℕ) (ms : List ℕ) → RiseWithin lo hi ms → RiseFrom lo ms
just_rise lo hi [] k = tt
just_rise lo hi (m ∷ ms) k = (k.0, just_rise m hi ms k.1)

-- none is above the bound
are_within : (lo hi : ℕ) (ms : List ℕ) → RiseWithin lo hi ms → (lo ≤ hi) × All (λ m. m ≤ hi) ms
are_within lo hi [] k = (k, All-nil (λ m. m ≤ hi))
are_within lo hi (m ∷ ms) k = go (are_within m hi ms k.1) where
  go : (m ≤ hi) × All (λ m. m ≤ hi) ms → (lo ≤ hi) × All (λ m. m ≤ hi) (m ∷ ms)
  go j = (omega (arith, k.0, j.0), All-cons (λ m. m ≤ hi) m ms j.0 j.1)

-- the bound may be raised
rise_higher : (lo hi top : ℕ) (ms : List ℕ) → hi ≤ top → RiseWithin lo hi ms → RiseWithin lo top ms
rise_higher lo hi top [] l k = omega (arith, l, k)
rise_higher lo hi top (m ∷ ms) l k = (k.0, rise_higher m hi top ms l k.1)

-- the first ones rise too
rise_front : (lo hi : ℕ) (ms ns : List ℕ) → RiseWithin lo hi (ms ++ ns) → RiseWithin lo hi ms
rise_front lo hi [] ns k = (are_within lo hi ns k).0
rise_front lo hi (m ∷ ms) ns k = (k.0, rise_front m hi ms ns k.1)

-- and so they do with one more that is above the bound
rise_on : (lo hi top : ℕ) (ms : List ℕ) → hi < top → RiseWithin lo hi ms → RiseWithin lo top (ms ++ top ∷ [])
rise_on lo hi top [] l k = (omega (arith, l, k), omega arith)
rise_on lo hi top (m ∷ ms) l k = (k.0, rise_on m hi top ms l k.1)

-- one deed

-- the number of what is open
abbrev open_in : SeatPhase → List ℕ
open_in (Writing k r g since) = r ∷ []
open_in (Patching t r since) = r ∷ []
open_in p = []

-- the numbers of what is given from this phase on, and of what is open after it
abbrev used_from : SeatPhase → Deeds → List ℕ
used_from p d = numbers_bringing (asked_in p d) ++ open_in (phase_in p d)

-- What is open stays, is given or is dropped; or something is opened.
abbrev Goes : List ℕ → Answer → List ℕ → Type 0
Goes old a new = (new ≡ old) ⊎ ((new ≡ []) ⊎ ((r : ℕ) × (a ≡ Opened r) × (old ≡ []) × (new ≡ r ∷ [])))

-- nothing is open after a pin
read_opens : (b : Bool) → open_in (cond b (Reading tt) Idle) ≡ []
read_opens true = refl
read_opens false = refl

-- nor after a piece
rest_opens : (b : Bool) → open_in (cond b Idle (Reading tt)) ≡ []
rest_opens true = refl
rest_opens false = refl

-- an upload gives its own number
write_brings : (k : UploadKind) (r : ℕ) (g : Graph) (since : Option ℕ) → numbers_bringing ((r, asked_since since (write_of k r g)) ∷ []) ++ [] ≡ r ∷ []
write_brings (Put t) r g since = refl
write_brings (Post t) r g since = refl
write_brings New r g since = refl

-- it goes so by any deed
deed_goes : (p : SeatPhase) (action : Action) (a : Answer) → Goes (open_in p) a (used_from p ((action, a) ∷ []))
deed_goes Idle (Open k since) (Opened r) = inr (inr (r, refl, refl, refl))
deed_goes Idle (OpenPatch t since) (Opened r) = inr (inr (r, refl, refl, refl))
deed_goes Idle (Delete t since) (Status s name number) = inl refl
deed_goes Idle (Head c) (Status s name number) = inl refl
deed_goes Idle (Pin c) (Pinned s number) = inl (read_opens (nat_eq s 200))
deed_goes (Writing k r g since) (Stage ts) Staged = inl refl
deed_goes (Writing k r g since) Commit (Status s name number) = inl (write_brings k r g since)
deed_goes (Writing k r g since) Cancel Cancelled = inr (inl refl)
deed_goes (Patching t r since) (CommitPatch ops) (Status s name number) = inl refl
deed_goes (Patching t r since) Cancel Cancelled = inr (inl refl)
deed_goes (Reading left) (Piece n) (Lines b end) = inl (rest_opens end)
deed_goes (Reading left) Cancel Cancelled = inl refl
deed_goes p action a = inl refl

-- one event

-- what is opened has the next number
opened_seat : (w : Totals) (v : SeatView) (action : Action) (r : ℕ) → FitsSeat w v action (Opened r) → r ≡ w.request + 1
opened_seat w Idle (Open k since) r f = f.1
opened_seat w Idle (OpenPatch t since) r f = f.1
opened_seat w Idle (Delete t since) r f = absurd f
opened_seat w Idle (Head c) r f = absurd f
opened_seat w Idle (Pin c) r f = absurd f
opened_seat w (Writing k n g since) (Stage ts) r f = absurd f
opened_seat w (Writing k n g since) Commit r f = absurd f
opened_seat w (Writing k n g since) Cancel r f = absurd f
opened_seat w (Patching t n since) (CommitPatch ops) r f = absurd f
opened_seat w (Patching t n since) Cancel r f = absurd f
opened_seat w (Reading left) (Piece n) r f = absurd f
opened_seat w (Reading left) Cancel r f = absurd f
opened_seat w v action r f = absurd f

-- so it has, whichever seat opened it
opened_number : (w : View) (s : ℕ) (action : Action) (r : ℕ) → Fits w (Seat s action) (Opened r) → r ≡ w.totals.request + 1
opened_number w s action r f = go (slice_get w.seats s) f where
  go : (o : Option SeatView) → MatchOption o (Opened r ≡ Refused BadSeat) (λ v. FitsSeat w.totals v action (Opened r)) → r ≡ w.totals.request + 1
  go None e = cc
  go (Some v) k = opened_seat w.totals v action r k

-- the event is one of this seat
abbrev IsAt : ℕ → Event → Type 0
IsAt c (Seat s action) = s ≡ c
IsAt c (Reclaim n) = ⊥

-- an event is of one seat
one_seat : (c d : ℕ) (e : Event) → IsAt c e → IsAt d e → c ≡ d
one_seat c d (Seat s action) k j = sym k ∙ j
one_seat c d (Reclaim n) k j = absurd k

-- What is open at this seat stays, is given or is dropped; or an event of the seat opened something under the next number.
abbrev GoesAt : ℕ → ℕ → Event → Answer → List ℕ → List ℕ → Type 0
GoesAt last c e a old new = (new ≡ old) ⊎ ((new ≡ []) ⊎ (IsAt c e × (answers_opened a ≡ true) × (old ≡ []) × (new ≡ (last + 1) ∷ [])))

-- it goes so by any event that fits
event_moves : (c : ℕ) (p : SeatPhase) (w : View) (e : Event) (a : Answer) → Fits w e a → GoesAt w.totals.request c e a (open_in p) (used_from p (deed_at c e a))
event_moves c p w (Reclaim n) a f = inl refl
event_moves c p w (Seat s action) a f = go (nat_eq s c) refl where
  own : nat_eq s c ≡ true → Goes (open_in p) a (used_from p ((action, a) ∷ [])) → GoesAt w.totals.request c (Seat s action) a (open_in p) (used_from p ((action, a) ∷ []))
  own e (inl k) = inl k
  own e (inr (inl k)) = inr (inl k)
  own e (inr (inr k)) = inr (inr (
    eqb-true s c e,
    ap answers_opened k.1,
    k.2,
    k.3 ∙ ap (λ (n : ℕ). n ∷ []) (opened_number w s action k.0 (subst (λ (b : Answer). Fits w (Seat s action) b) k.1 f)),
  ))

  go : (b : Bool) → nat_eq s c ≡ b → GoesAt w.totals.request c (Seat s action) a (open_in p) (used_from p (cond b ((action, a) ∷ []) []))
  go true e = own e (deed_goes p action a)
  go false e = inl refl

-- a history

-- the number of the last request
abbrev last_of : Start → History → ℕ
last_of start h = (view_of start h).totals.request

-- one more event raises it by one where something was opened
last-cons : (start : Start) (h : History) (e : Event) (a : Answer) → last_of start ((e, a) ∷ h) ≡ last_of start h + cond (answers_opened a) 1 0
last-cons start h e a = omega (arith, sum_by-cons (λ (x : Event × Answer). cond (answers_opened x.1) 1 0) (e, a) h)

-- it never falls
last_grows : (start : Start) (h : History) (e : Event) (a : Answer) → last_of start h ≤ last_of start ((e, a) ∷ h)
last_grows start h e a = omega (arith, last-cons start h e a)

-- what is opened has it
last_opened : (start : Start) (h : History) (e : Event) (a : Answer) → answers_opened a ≡ true → last_of start ((e, a) ∷ h) ≡ last_of start h + 1
last_opened start h e a o = last-cons start h e a ∙ ap (λ (b : Bool). last_of start h + cond b 1 0) o

-- the numbers that a seat used: of what it gave, and of what is open
abbrev used_at : ℕ → History → List ℕ
used_at c h = used_from Idle (deeds_at c h)

-- the numbers of some points and of more
numbers-append : (xs ys : List Point) → numbers_bringing (xs ++ ys) ≡ numbers_bringing xs ++ numbers_bringing ys
numbers-append [] ys = refl
numbers-append (q ∷ xs) ys = go (brings q.1.operation) (numbers-append xs ys) where
  go : (b : Bool) → numbers_bringing (xs ++ ys) ≡ numbers_bringing xs ++ numbers_bringing ys
      → cond b (q.0 ∷ numbers_bringing (xs ++ ys)) (numbers_bringing (xs ++ ys)) ≡ cond b (q.0 ∷ numbers_bringing xs) (numbers_bringing xs) ++ numbers_bringing ys
  go true e = ap (λ (ns : List ℕ). q.0 ∷ ns) e
  go false e = e

-- the numbers after more deeds
used-append : (d f : Deeds) → used_from Idle (d ++ f) ≡ numbers_bringing (asked_in Idle d) ++ used_from (phase_in Idle d) f
used-append d f =
    ap (λ (qs : List Point). numbers_bringing qs ++ open_in (phase_in Idle (d ++ f))) (operations-append Idle d f)
    ∙ ap (λ (ns : List ℕ). ns ++ open_in (phase_in Idle (d ++ f))) (numbers-append (asked_in Idle d) (asked_in (phase_in Idle d) f))
    ∙ ap (λ (p : SeatPhase). (numbers_bringing (asked_in Idle d) ++ numbers_bringing (asked_in (phase_in Idle d) f)) ++ open_in p) (phase-append Idle d f)
    ∙ append_assoc (numbers_bringing (asked_in Idle d)) (numbers_bringing (asked_in (phase_in Idle d) f)) (open_in (phase_in (phase_in Idle d) f))

-- The numbers still rise, up to the new bound; each is an old one, or the next, which an event of the seat took.
record Grows (last next c : ℕ) (e : Event) (old new : List ℕ) : Type 0 where
  pub rise : RiseWithin 0 last old → RiseWithin 0 next new
  pub from : (r : ℕ) → Contains new r → Contains old r ⊎ (IsAt c e × (r ≡ last + 1))

-- it is so where they stay
same_grows : (last next c : ℕ) (e : Event) (ms : List ℕ) → last ≤ next → Grows last next c e ms ms
same_grows last next c e ms l = record {
  rise = rise_higher 0 last next ms l;
  from = λ r j. inl j;
}

-- where what was open is dropped
less_grows : (last next c : ℕ) (e : Event) (ms old : List ℕ) → last ≤ next → Grows last next c e (ms ++ old) ms
less_grows last next c e ms old l = record {
  rise = λ j. rise_higher 0 last next ms l (rise_front 0 last ms old j);
  from = λ r j. inl (Contains-append_left ms old r j);
}

-- where something is opened
more_grows : (last next c : ℕ) (e : Event) (ms : List ℕ) → IsAt c e → next ≡ last + 1 → Grows last next c e ms (ms ++ (last + 1) ∷ [])
more_grows last next c e ms at o = record {
  rise = λ j. subst (λ (n : ℕ). RiseWithin 0 n (ms ++ (last + 1) ∷ [])) (sym o) (rise_on 0 last (last + 1) ms (omega arith) j);
  from = λ r j. which r (Contains-push_cases ms (last + 1) r j);
} where
  which : (r : ℕ) → Contains ms r ⊎ (last + 1 ≡ r) → Contains ms r ⊎ (IsAt c e × (r ≡ last + 1))
  which r (inl j) = inl j
  which r (inr j) = inr (at, sym j)

-- so it is in each case
moved_grows : (last next c : ℕ) (e : Event) (a : Answer) (ms old new : List ℕ) → last ≤ next → (answers_opened a ≡ true → next ≡ last + 1) → GoesAt last c e a old new
    → Grows last next c e (ms ++ old) (ms ++ new)
moved_grows last next c e a ms old new l o (inl k) =
    subst (λ (ns : List ℕ). Grows last next c e (ms ++ old) (ms ++ ns)) (sym k) (same_grows last next c e (ms ++ old) l)
moved_grows last next c e a ms old new l o (inr (inl k)) =
    subst (λ (ns : List ℕ). Grows last next c e (ms ++ old) ns) (sym (ap (λ (ns : List ℕ). ms ++ ns) k ∙ append-nil ms)) (less_grows last next c e ms old l)
moved_grows last next c e a ms old new l o (inr (inr k)) =
    subst (λ (ns : List ℕ). Grows last next c e (ms ++ old) (ms ++ ns)) (sym k.3)
    (subst (λ (ns : List ℕ). Grows last next c e ns (ms ++ (last + 1) ∷ [])) (sym (ap (λ (ns : List ℕ). ms ++ ns) k.2 ∙ append-nil ms)) (more_grows last next c e ms k.0 (o k.1)))

-- it is so for one more event of a legal history
history_grows : (start : Start) (c : ℕ) (e : Event) (a : Answer) (h : History) → Fits (view_of start h) e a
    → Grows (last_of start h) (last_of start ((e, a) ∷ h)) c e (used_at c h) (used_at c ((e, a) ∷ h))
history_grows start c e a h f =
    subst (λ (ms : List ℕ). Grows (last_of start h) (last_of start ((e, a) ∷ h)) c e (used_at c h) ms) (sym (used-append (deeds_at c h) (deed_at c e a)))
    (moved_grows (last_of start h) (last_of start ((e, a) ∷ h)) c e a (numbers_bringing (asked_in Idle (deeds_at c h))) _ _ (last_grows start h e a) (last_opened start h e a)
    (event_moves c (phase_in Idle (deeds_at c h)) (view_of start h) e a f))

-- the numbers that a seat used rise to at most the last one
used_rise : (start : Start) (c : ℕ) (h : History) → IsLegal start h → RiseWithin 0 (last_of start h) (used_at c h)
used_rise start c [] legal = omega arith
used_rise start c (x ∷ h) legal = (history_grows start c x.0 x.1 h legal.1).rise (used_rise start c h legal.0)

-- none is above the last one
used_within : (start : Start) (c r : ℕ) (h : History) → IsLegal start h → Contains (used_at c h) r → r ≤ last_of start h
used_within start c r h legal k = All-contains (λ m. m ≤ last_of start h) (used_at c h) r (are_within 0 (last_of start h) (used_at c h) (used_rise start c h legal)).1 k

-- no two seats used the same one
used_apart : (start : Start) (c d r : ℕ) (h : History) → c ≢ d → IsLegal start h → Contains (used_at c h) r → Contains (used_at d h) r → ⊥
used_apart start c d r [] ne legal k j = absurd (omega (arith, k.1))
used_apart start c d r (x ∷ h) ne legal k j =
    go ((history_grows start c x.0 x.1 h legal.1).from r k) ((history_grows start d x.0 x.1 h legal.1).from r j) (λ m n. used_apart start c d r h ne legal.0 m n)
  where
    go : Contains (used_at c h) r ⊎ (IsAt c x.0 × (r ≡ last_of start h + 1)) → Contains (used_at d h) r ⊎ (IsAt d x.0 × (r ≡ last_of start h + 1))
        → (Contains (used_at c h) r → Contains (used_at d h) r → ⊥) → ⊥
    go (inl m) (inl n) again = again m n
    go (inl m) (inr n) again = absurd (omega (arith, used_within start c r h legal.0 m, n.1))
    go (inr m) (inl n) again = absurd (omega (arith, used_within start d r h legal.0 n, m.1))
    go (inr m) (inr n) again = ne (one_seat c d x.0 m.0 n.0)

-- The numbers of a seat's requests rise in a legal history.
pub numbers_rise : (start : Start) (c : ℕ) (h : History) → IsLegal start h → RiseFrom 0 (request_numbers c h)
numbers_rise start c h legal = just_rise 0 (last_of start h) (request_numbers c h) (rise_front 0 (last_of start h) (request_numbers c h) _ (used_rise start c h legal))

-- No two seats have one in common.
pub numbers_apart : (start : Start) (c d r : ℕ) (h : History) → c ≢ d → IsLegal start h → Contains (request_numbers c h) r → Contains (request_numbers d h) r → ⊥
numbers_apart start c d r h ne legal k j =
    used_apart start c d r h ne legal (Contains-append_left (request_numbers c h) _ r k) (Contains-append_left (request_numbers d h) _ r j)
