-- What an event decided: the answer alone gives its kind and status, and its triples were staged or came with it.
use Rattle.std.proofs.Common.{◌≡◌, ℕ, zero, suc, ◌+◌, ◌≤◌, List, [], ◌∷◌, Option, None, Some, Bool, true, false, refl, sym, ap, ◌∙◌, arith}
use Rattle.std.specs.Prelude.{sum, not, nat_eq, MatchOption}
use Rattle.std.specs.List.{slice_get, slice_set, slice_index}
use Rattle.std.proofs.lemmas.List.Sums.{sum_by-cons}
use Rattle.std.proofs.lemmas.Bool.Decides.{nat_tests}
use Rattle.gs_model.specs.Graphs.{Graph}
use Rattle.gs_term.specs.declared.names.Target.{Target}
use Rattle.gs_model.specs.declared.refusals.Refusal.TheVariants.{BadSeat}
use Rattle.gs_event.specs.declared.events.UploadKind.{UploadKind}
use Rattle.gs_event.specs.declared.events.UploadKind.TheVariants.{Put, Post, New}
use Rattle.gs_event.specs.declared.events.Action.{Action}
use Rattle.gs_event.specs.declared.events.Action.TheVariants.{Open, OpenPatch, Stage, Commit, CommitPatch, Delete, Head, Pin, Piece, Cancel}
use Rattle.gs_event.specs.declared.events.Event.{Event}
use Rattle.gs_event.specs.declared.events.Event.TheVariants.{Seat as At, Reclaim}
use Rattle.gs_event.specs.declared.answers.Answer.{Answer}
use Rattle.gs_event.specs.declared.answers.Answer.TheVariants.{Opened, Staged, Status, Pinned, Cancelled, Refused}
use Rattle.gs_event.specs.Conditions.{Asked}
use Rattle.gs_event.specs.Phases.{Idle, Writing, Patching, Reading, operation_of}
use Rattle.gs_event.specs.Views.{View, SeatView, Totals, Fits, FitsSeat}
use Rattle.gs_chronicle.specs.declared.kinds.ActionKind.{ActionKind}
use Rattle.gs_chronicle.specs.Kinds.{action_kind_of}
use Rattle.gs_chronicle.specs.Sizes.{ops_size}
use Rattle.gs_chronicle.specs.Pages.{Decided}
use Rattle.gs_audit.specs.Staged.{staged_since_open, staged_after}
use Rattle.gs_audit.specs.Decisions.{status_in, call_for, decided_at, decided_if, decided_by}
use Rattle.gs_pass.specs.Tallies.{decides, brought_by}
use Rattle.gs_shared.specs.Asked.{ask_of_action, ask_of_event, decided_of, brought_of}
use Rattle.gs_shared.specs.Tells.{is_of_another}
use Rattle.gs_shared.proofs.AskedLemmas.{decided_of-ask_of_action, brought_of-ask_of_action, decided_of-Refused}

-- the triples of what was decided
abbrev pub size_if : Option Decided → ℕ
size_if None = 0
size_if (Some d) = d.triples

-- the kind and status of what was decided
abbrev pub mark_if : Option Decided → Option (ActionKind × ℕ)
mark_if None = None
mark_if (Some d) = Some (action_kind_of d.asked.operation, d.status)

-- a call has at most the triples that it is for
size_if-call_for : (s n status : ℕ) (o : Option Asked) → size_if (call_for s n status o) ≤ n
size_if-call_for s n status None = omega arith
size_if-call_for s n status (Some q) = omega arith

-- what a commit decides was staged, and is no more
commit_law : (s n : ℕ) (p : SeatView) (a : Answer) → staged_since_open n Commit a + size_if (decided_at s p n Commit a) ≤ n
commit_law s n p (Status x name number) = let few = size_if-call_for s n x (operation_of p Commit (Status x name number)) in omega (arith, few)
commit_law s n Idle a = omega arith
commit_law s n (Writing k r g since) a = omega arith
commit_law s n (Patching t r since) a = omega arith
commit_law s n (Reading left) a = omega arith

-- What is staged at a seat after an event, and what the event decided, was staged before it or came with it.
seat_law : (s n : ℕ) (p : SeatView) (action : Action) (a : Answer) → staged_since_open n action a + size_if (decided_at s p n action a) ≤ n + brought_by action a
seat_law s n p Commit a = let few = commit_law s n p a in omega (arith, few)
seat_law s n p (CommitPatch ops) (Status x name number) =
    let few = size_if-call_for s (ops_size ops.items) x (operation_of p (CommitPatch ops) (Status x name number)) in omega (arith, few)
seat_law s n Idle (CommitPatch ops) a = omega arith
seat_law s n (Writing k r g since) (CommitPatch ops) a = omega arith
seat_law s n (Patching t r since) (CommitPatch ops) a = omega arith
seat_law s n (Reading left) (CommitPatch ops) a = omega arith
seat_law s n p (Stage ts) Staged = let few = size_if-call_for s 0 0 (operation_of p (Stage ts) Staged) in omega (arith, few)
seat_law s n p (Stage ts) a = let few = size_if-call_for s 0 (status_in a) (operation_of p (Stage ts) a) in omega (arith, few)
seat_law s n p (Open k c) (Opened r) = let few = size_if-call_for s 0 0 (operation_of p (Open k c) (Opened r)) in omega (arith, few)
seat_law s n p (Open k c) a = let few = size_if-call_for s 0 (status_in a) (operation_of p (Open k c) a) in omega (arith, few)
seat_law s n p Cancel Cancelled = let few = size_if-call_for s 0 0 (operation_of p Cancel Cancelled) in omega (arith, few)
seat_law s n p Cancel a = let few = size_if-call_for s 0 (status_in a) (operation_of p Cancel a) in omega (arith, few)
seat_law s n p (OpenPatch t c) a = let few = size_if-call_for s 0 (status_in a) (operation_of p (OpenPatch t c) a) in omega (arith, few)
seat_law s n p (Delete t c) a = let few = size_if-call_for s 0 (status_in a) (operation_of p (Delete t c) a) in omega (arith, few)
seat_law s n p (Head c) a = let few = size_if-call_for s 0 (status_in a) (operation_of p (Head c) a) in omega (arith, few)
seat_law s n p (Pin c) a = let few = size_if-call_for s 0 (status_in a) (operation_of p (Pin c) a) in omega (arith, few)
seat_law s n p (Piece m) a = let few = size_if-call_for s 0 (status_in a) (operation_of p (Piece m) a) in omega (arith, few)

-- a sum after one of its numbers was set
sum_set : (xs : List ℕ) (s x : ℕ) → sum (slice_set xs s x) + slice_index xs s ≤ sum xs + x
sum_set [] s x = omega arith
sum_set (y ∷ ys) zero x = omega (arith, sum_by-cons (λ n. n) x ys, sum_by-cons (λ n. n) y ys)
sum_set (y ∷ ys) (suc s) x = let h = sum_set ys s x in omega (arith, h, sum_by-cons (λ n. n) y (slice_set ys s x), sum_by-cons (λ n. n) y ys)

-- What is staged in all after an event, and what the event decided, was staged before it or came with it.
pub staged_law : (v : View) (staged : List ℕ) (e : Event) (a : Answer) (more : ℕ) → more ≡ brought_of (ask_of_event e) a → sum (staged_after staged e a) + size_if (decided_by v staged e a) ≤ sum staged + more
staged_law v staged (Reclaim n) a more is = omega arith
staged_law v staged (At s action) a more is = at (slice_get v.seats s)
  where
    brought : more ≡ brought_by action a
    brought = is ∙ brought_of-ask_of_action action a

    at : (o : Option SeatView) → sum (slice_set staged s (staged_since_open (slice_index staged s) action a)) + size_if (decided_if s o (slice_index staged s) action a) ≤ sum staged + more
    at None =
        let law = seat_law s (slice_index staged s) Idle action a in
        let set = sum_set staged s (staged_since_open (slice_index staged s) action a) in
        omega (arith, law, set, brought)
    at (Some p) =
        let law = seat_law s (slice_index staged s) p action a in
        let set = sum_set staged s (staged_since_open (slice_index staged s) action a) in
        omega (arith, law, set, brought)

-- An idle seat: what it decides has the kind and status that the answer alone gives.
idle_mark : (t : Totals) (s n : ℕ) (action : Action) (a : Answer) → FitsSeat t Idle action a → mark_if (decided_at s Idle n action a) ≡ decides action a
idle_mark t s n Commit (Status x name number) fits = absurd fits
idle_mark t s n (CommitPatch ops) (Status x name number) fits = absurd fits
idle_mark t s n (Delete u c) (Status x name number) fits = refl
idle_mark t s n (Head c) (Status x name number) fits = refl
idle_mark t s n (Pin c) (Pinned x number) fits = refl
idle_mark t s n action a fits = refl

-- The same of a seat that writes.
writing_mark : (t : Totals) (s n : ℕ) (k : UploadKind) (r : ℕ) (g : Graph) (since : Option ℕ) (action : Action) (a : Answer) → FitsSeat t (Writing k r g since) action a → mark_if (decided_at s (Writing k r g since) n action a) ≡ decides action a
writing_mark t s n (Put u) r g since Commit (Status x name number) fits = refl
writing_mark t s n (Post u) r g since Commit (Status x name number) fits = refl
writing_mark t s n New r g since Commit (Status x name number) fits = refl
writing_mark t s n k r g since (CommitPatch ops) (Status x name number) fits = absurd fits
writing_mark t s n k r g since (Delete u c) (Status x name number) fits = absurd fits
writing_mark t s n k r g since (Head c) (Status x name number) fits = absurd fits
writing_mark t s n k r g since (Pin c) (Pinned x number) fits = absurd fits
writing_mark t s n k r g since action a fits = refl

-- The same of a seat that patches.
patching_mark : (t : Totals) (s n : ℕ) (u : Target) (r : ℕ) (since : Option ℕ) (action : Action) (a : Answer) → FitsSeat t (Patching u r since) action a → mark_if (decided_at s (Patching u r since) n action a) ≡ decides action a
patching_mark t s n u r since Commit (Status x name number) fits = absurd fits
patching_mark t s n u r since (Delete w c) (Status x name number) fits = absurd fits
patching_mark t s n u r since (Head c) (Status x name number) fits = absurd fits
patching_mark t s n u r since (Pin c) (Pinned x number) fits = absurd fits
patching_mark t s n u r since (CommitPatch ops) (Status x name number) fits = refl
patching_mark t s n u r since action a fits = refl

-- The same of a seat that reads.
reading_mark : (t : Totals) (s n : ℕ) (left : List (List ℕ)) (action : Action) (a : Answer) → FitsSeat t (Reading left) action a → mark_if (decided_at s (Reading left) n action a) ≡ decides action a
reading_mark t s n left Commit (Status x name number) fits = absurd fits
reading_mark t s n left (CommitPatch ops) (Status x name number) fits = absurd fits
reading_mark t s n left (Delete u c) (Status x name number) fits = absurd fits
reading_mark t s n left (Head c) (Status x name number) fits = absurd fits
reading_mark t s n left (Pin c) (Pinned x number) fits = absurd fits
reading_mark t s n left action a fits = refl

-- The same of any seat.
seat_mark : (t : Totals) (s n : ℕ) (p : SeatView) (action : Action) (a : Answer) → FitsSeat t p action a → mark_if (decided_at s p n action a) ≡ decides action a
seat_mark t s n Idle action a fits = idle_mark t s n action a fits
seat_mark t s n (Writing k r g since) action a fits = writing_mark t s n k r g since action a fits
seat_mark t s n (Patching u r since) action a fits = patching_mark t s n u r since action a fits
seat_mark t s n (Reading left) action a fits = reading_mark t s n left action a fits

-- What an event decided has the kind and status that what it asked gives with the answer.
pub mark_law : (v : View) (staged : List ℕ) (e : Event) (a : Answer) → Fits v e a → mark_if (decided_by v staged e a) ≡ decided_of (ask_of_event e) a
mark_law v staged (Reclaim n) a fits = refl
mark_law v staged (At s action) a fits = at (slice_get v.seats s) fits
  where
    at : (o : Option SeatView) → MatchOption o (a ≡ Refused BadSeat) (λ p. FitsSeat v.totals p action a) → mark_if (decided_if s o (slice_index staged s) action a) ≡ decided_of (ask_of_action action) a
    at None fit = sym (ap (decided_of (ask_of_action action)) fit ∙ decided_of-Refused (ask_of_action action) BadSeat)
    at (Some p) fit = seat_mark v.totals s (slice_index staged s) p action a fit ∙ sym (decided_of-ask_of_action action a)

-- What was decided is there where its kind and status are.
pub some_decided : (o : Option Decided) (m : ActionKind × ℕ) → mark_if o ≡ Some m → (d : Decided) × (o ≡ Some d) × (action_kind_of d.asked.operation ≡ m.0) × (d.status ≡ m.1)
some_decided None m e = absurd (cc)
some_decided (Some d) m e = let same : (action_kind_of d.asked.operation, d.status) ≡ m = cc in (d, refl, ap (λ x. x.0) same, ap (λ x. x.1) same)

-- Nothing was decided where there is no kind and status.
pub none_decided : (o : Option Decided) → mark_if o ≡ None → o ≡ None
none_decided None e = refl
none_decided (Some d) e = absurd (cc)

-- What an event decided that is no action of another seat is of the seat.
pub own_decided : (v : View) (staged : List ℕ) (e : Event) (a : Answer) (own : ℕ) (d : Decided) → is_of_another own e ≡ false → decided_by v staged e a ≡ Some d → d.seat ≡ own
own_decided v staged (Reclaim n) a own d mine is = absurd (cc)
own_decided v staged (At s action) a own d mine is = seat_is (slice_get v.seats s) is ∙ same (nat_eq s own) refl mine
  where
    same : (b : Bool) → nat_eq s own ≡ b → not b ≡ false → s ≡ own
    same true e n = grind (arith, nat_tests)
    same false e n = absurd (cc)

    seat_of : (n status : ℕ) (o : Option Asked) → call_for s n status o ≡ Some d → d.seat ≡ s
    seat_of n status None e = absurd (cc)
    seat_of n status (Some q) e =
        let made : record { seat = s; asked = q; triples = n; status = status } ≡ d = cc in sym (ap (λ (x : Decided). x.seat) made)

    seat_is : (o : Option SeatView) → decided_if s o (slice_index staged s) action a ≡ Some d → d.seat ≡ s
    seat_is None e = absurd (cc)
    seat_is (Some p) e = seat_of _ _ (operation_of p action a) e
