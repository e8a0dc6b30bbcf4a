-- Two histories with the same phases, but for what is left of reads, ask the same by the same events.
use Rattle.std.proofs.Common.{◌≡◌, ℕ, Bool, true, false, cond, nat_eq, [], ◌∷◌, ◌++◌, refl, sym, ap, ◌∙◌}
use Rattle.std.specs.List.{cons_option}
use Rattle.gs_event.specs.declared.events.Action.{Action}
use Rattle.gs_event.specs.declared.events.Action.TheVariants.{Open, OpenPatch, Stage, Commit, CommitPatch, Delete, Head, Pin, Piece, Cancel}
use Rattle.gs_event.specs.declared.events.Event.{Event}
use Rattle.gs_event.specs.declared.events.Event.TheVariants.{Seat as At, Reclaim}
use Rattle.gs_event.specs.declared.answers.Answer.{Answer}
use Rattle.gs_event.specs.declared.answers.Answer.TheVariants.{Opened, Staged, Status, Pinned, Lines, Cancelled}
use Rattle.gs_event.specs.Phases.{Phase, Idle, Writing, Patching, Reading, phase_after, operation_of}
use Rattle.gs_event.specs.Histories.{History, OpenRead, phase_of, phase_by, operation_by, points_of}
use Rattle.gs_event.proofs.HistoryLemmas.{later}

-- a phase without what is left of a read
abbrev pub outline : Phase OpenRead → Phase (Unit {0})
outline Idle = Idle
outline (Writing k r g since) = Writing k r g since
outline (Patching t r since) = Patching t r since
outline (Reading left) = Reading tt

-- two phases differ at most in what is left of a read
abbrev pub AreAlike : Phase OpenRead → Phase OpenRead → Type 0
AreAlike p q = outline p ≡ outline q

-- the table of phases over outlines
abbrev next : Phase (Unit {0}) → Action → Answer → Phase (Unit {0})
next = phase_after (λ c. tt) (λ left n. tt)

pinned_outline : (b : Bool) (x : OpenRead) → outline (cond b (Reading x) Idle) ≡ cond b (Reading tt) Idle
pinned_outline true x = refl
pinned_outline false x = refl

given_outline : (b : Bool) (x : OpenRead) → outline (cond b Idle (Reading x)) ≡ cond b Idle (Reading tt)
given_outline true x = refl
given_outline false x = refl

outline_later : (h : History) (p : Phase OpenRead) (action : Action) (a : Answer) → outline (later h p action a) ≡ next (outline p) action a
outline_later h Idle (Open k condition) (Opened r) = refl
outline_later h Idle (OpenPatch t condition) (Opened r) = refl
outline_later h Idle (Pin c) (Pinned s number) = pinned_outline (nat_eq s 200) (record { scope = c; before = h; given = 0 })
outline_later h (Writing t r g since) (Stage ts) Staged = refl
outline_later h (Writing t r g since) Commit (Status s name number) = refl
outline_later h (Writing t r g since) Cancel Cancelled = refl
outline_later h (Patching t r since) (CommitPatch ops) (Status s name number) = refl
outline_later h (Patching t r since) Cancel Cancelled = refl
outline_later h (Reading x) (Piece n) (Lines b end) = given_outline end _
outline_later h (Reading x) Cancel Cancelled = refl
outline_later h p action a = refl

outline_asks : (p : Phase OpenRead) (action : Action) (a : Answer) → operation_of (outline p) action a ≡ operation_of p action a
outline_asks Idle (Delete t condition) (Status s name number) = refl
outline_asks Idle (Head c) (Status s name number) = refl
outline_asks Idle (Pin c) (Pinned s number) = refl
outline_asks (Writing t r g since) Commit (Status s name number) = refl
outline_asks (Patching t r since) (CommitPatch ops) (Status s name number) = refl
outline_asks p action a = refl

-- They ask the same,
pub asks_alike : (p q : Phase OpenRead) (action : Action) (a : Answer) → AreAlike p q → operation_of p action a ≡ operation_of q action a
asks_alike p q action a e = sym (outline_asks p action a) ∙ ap (λ o. operation_of o action a) e ∙ outline_asks q action a

-- and stay alike.
later_alike : (h k : History) (p q : Phase OpenRead) (action : Action) (a : Answer) → AreAlike p q → AreAlike (later h p action a) (later k q action a)
later_alike h k p q action a e = outline_later h p action a ∙ ap (λ o. next o action a) e ∙ sym (outline_later k q action a)

pub phases_by : (h k : History) (n : ℕ) (e : Event) (a : Answer) → AreAlike (phase_of h n) (phase_of k n) → AreAlike (phase_by h n (phase_of h n) e a) (phase_by k n (phase_of k n) e a)
phases_by h k n (Reclaim m) a is = is
phases_by h k n (At s action) a is =
    elim (nat_eq s n) as (λ b. AreAlike (cond b (later h (phase_of h n) action a) (phase_of h n)) (cond b (later k (phase_of k n) action a) (phase_of k n))) [
      | true ↦ later_alike h k (phase_of h n) (phase_of k n) action a is
      | false ↦ is
    ]

-- what an event asks after two histories with alike phases
asked_by : (h k : History) (e : Event) (a : Answer) → ((n : ℕ) → AreAlike (phase_of h n) (phase_of k n)) → operation_by h e a ≡ operation_by k e a
asked_by h k (Reclaim m) a alike = refl
asked_by h k (At s action) a alike = asks_alike (phase_of h s) (phase_of k s) action a (alike s)

-- phases stay alike under the same events
alike_on : (after h k : History) → ((n : ℕ) → AreAlike (phase_of h n) (phase_of k n)) → (n : ℕ) → AreAlike (phase_of (after ++ h) n) (phase_of (after ++ k) n)
alike_on [] h k alike n = alike n
alike_on (x ∷ after) h k alike n = phases_by (after ++ h) (after ++ k) n x.0 x.1 (alike_on after h k alike n)

-- The same events add the same points.
pub points_on : (after h k : History) → points_of h ≡ points_of k → ((n : ℕ) → AreAlike (phase_of h n) (phase_of k n)) → points_of (after ++ h) ≡ points_of (after ++ k)
points_on [] h k points alike = points
points_on (x ∷ after) h k points alike =
    ap (λ q. cons_option q (points_of (after ++ h))) (asked_by (after ++ h) (after ++ k) x.0 x.1 (alike_on after h k alike))
    ∙ ap (cons_option (operation_by (after ++ k) x.0 x.1)) (points_on after h k points alike)
