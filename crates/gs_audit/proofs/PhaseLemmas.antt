-- What an answer that fits a seat says of what its slot keeps: the phase, the count, and what was decided.
use Rattle.std.proofs.Common.{◌≡◌, ℕ, List, Bool, true, false, Option, Some, None, refl, sym, ap, ◌∙◌}
use Rattle.std.specs.Prelude.{nat_eq, cond, drop}
use Rattle.gs_model.specs.Graphs.{Graph}
use Rattle.gs_term.specs.declared.names.Target.{Target}
use Rattle.gs_event.specs.declared.events.UploadKind.{UploadKind}
use Rattle.gs_event.specs.declared.events.Action.{Action}
use Rattle.gs_event.specs.declared.events.Action.TheVariants.{Open, OpenPatch, Stage, Commit, CommitPatch, Delete, Head, Pin, Piece, Cancel}
use Rattle.gs_event.specs.declared.answers.Answer.{Answer}
use Rattle.gs_event.specs.declared.answers.Answer.TheVariants.{Opened, Staged, Status, Pinned, Lines, Cancelled, Refused}
use Rattle.gs_event.specs.Datasets.{lines_in}
use Rattle.gs_event.specs.Conditions.{Asked, status_if}
use Rattle.gs_event.specs.Phases.{Idle, Writing, Patching, Reading, operation_of}
use Rattle.gs_event.specs.Views.{Totals, SeatView, FitsSeat, next_phase, state_of}
use Rattle.gs_audit.specs.Staged.{staged_since_open}
use Rattle.gs_audit.specs.Decisions.{status_in, triples_by, call_for, decided_at}
use Rattle.gs_audit.specs.Slots.{open_of, open_after, count_after}

reads_or_not : (b : Bool) (x y : List (List ℕ)) → open_of (cond b (Reading x) Idle) ≡ open_of (cond b (Reading y) Idle)
reads_or_not true x y = refl
reads_or_not false x y = refl

ends_or_not : (b : Bool) (x : List (List ℕ)) → open_of (cond b Idle (Reading x)) ≡ Idle
ends_or_not true x = refl
ends_or_not false x = refl

idle_phase : (t : Totals) (action : Action) (a : Answer) → open_of (next_phase t Idle action a) ≡ open_after Idle action a
idle_phase t (Open k _) (Opened r) = refl
idle_phase t (OpenPatch d _) (Opened r) = refl
idle_phase t (Pin c) (Pinned s number) = reads_or_not (nat_eq s 200) (lines_in t.dataset c) _
idle_phase t action a = refl

writing_phase : (t : Totals) (k : UploadKind) (r : ℕ) (g : Graph) (since : Option ℕ) (action : Action) (a : Answer) → open_of (next_phase t (Writing k r g since) action a) ≡ open_after (Writing k r g since) action a
writing_phase t k r g since (Stage ts) Staged = refl
writing_phase t k r g since Commit (Status s name number) = refl
writing_phase t k r g since Cancel Cancelled = refl
writing_phase t k r g since action a = refl

patching_phase : (t : Totals) (d : Target) (r : ℕ) (since : Option ℕ) (action : Action) (a : Answer) → open_of (next_phase t (Patching d r since) action a) ≡ open_after (Patching d r since) action a
patching_phase t d r since (CommitPatch ops) (Status s name number) = refl
patching_phase t d r since Cancel Cancelled = refl
patching_phase t d r since action a = refl

-- what a seat that reads keeps is nothing, whatever it was answered
reading_phase : (t : Totals) (left : List (List ℕ)) (action : Action) (a : Answer) → FitsSeat t (Reading left) action a → open_of (next_phase t (Reading left) action a) ≡ open_after Idle action a
reading_phase t left (Piece n) (Lines b end) fits = ends_or_not end (drop n left)
reading_phase t left Cancel Cancelled fits = refl
reading_phase t left action (Refused x) fits = refl
reading_phase t left action a fits = absurd fits

pub next_kept : (t : Totals) (p : SeatView) (action : Action) (a : Answer) → FitsSeat t p action a → open_of (next_phase t p action a) ≡ open_after (open_of p) action a
next_kept t Idle action a fits = idle_phase t action a
next_kept t (Writing k r g since) action a fits = writing_phase t k r g since action a
next_kept t (Patching d r since) action a fits = patching_phase t d r since action a
next_kept t (Reading left) action a fits = reading_phase t left action a fits

reading_asks : (t : Totals) (left : List (List ℕ)) (action : Action) (a : Answer) → FitsSeat t (Reading left) action a
    → operation_of (Reading left) action a ≡ operation_of {R = List (List ℕ)} Idle action a
reading_asks t left (Delete d _) (Status s name number) fits = absurd fits
reading_asks t left (Head c) (Status s name number) fits = absurd fits
reading_asks t left (Pin c) (Pinned s number) fits = absurd fits
reading_asks t left action a fits = refl

-- what the abstract store is asked at a seat is what it is asked at the phase that is kept of it
kept_asks : (t : Totals) (p : SeatView) (action : Action) (a : Answer) → FitsSeat t p action a → operation_of p action a ≡ operation_of (open_of p) action a
kept_asks t Idle action a fits = refl
kept_asks t (Writing k r g since) action a fits = refl
kept_asks t (Patching d r since) action a fits = refl
kept_asks t (Reading left) action a fits = reading_asks t left action a fits

pub decided_kept : (t : Totals) (p : SeatView) (s n : ℕ) (action : Action) (a : Answer) → FitsSeat t p action a → decided_at s p n action a ≡ decided_at s (open_of p) n action a
decided_kept t p s n action a fits = ap (call_for s (triples_by n action) (status_in a)) (kept_asks t p action a fits)

-- nothing is staged where no upload is open
abbrev pub StagedAt : SeatView → ℕ → Type 0
StagedAt (Writing k r g since) n = Unit {0}
StagedAt p n = n ≡ 0

idle_count : (t : Totals) (action : Action) (a : Answer) → FitsSeat t Idle action a → staged_since_open 0 action a ≡ 0
idle_count t (Open k _) (Opened r) fits = refl
idle_count t (Stage ts) Staged fits = absurd fits
idle_count t Commit (Status s name number) fits = refl
idle_count t Cancel Cancelled fits = refl
idle_count t action a fits = refl

writing_count : (t : Totals) (k : UploadKind) (r : ℕ) (g : Graph) (since : Option ℕ) (n : ℕ) (action : Action) (a : Answer) → FitsSeat t (Writing k r g since) action a
    → staged_since_open n action a ≡ count_after (Writing k r g since) n action a
writing_count t k r g since n (Open j _) (Opened q) fits = absurd fits
writing_count t k r g since n (Stage ts) Staged fits = refl
writing_count t k r g since n Commit (Status s name number) fits = refl
writing_count t k r g since n Cancel Cancelled fits = refl
writing_count t k r g since n action a fits = refl

patching_count : (t : Totals) (d : Target) (r : ℕ) (since : Option ℕ) (action : Action) (a : Answer) → FitsSeat t (Patching d r since) action a → staged_since_open 0 action a ≡ 0
patching_count t d r since (Open k _) (Opened q) fits = refl
patching_count t d r since (Stage ts) Staged fits = absurd fits
patching_count t d r since Commit (Status s name number) fits = refl
patching_count t d r since Cancel Cancelled fits = refl
patching_count t d r since action a fits = refl

reading_count : (t : Totals) (left : List (List ℕ)) (action : Action) (a : Answer) → FitsSeat t (Reading left) action a → staged_since_open 0 action a ≡ 0
reading_count t left (Open k _) (Opened q) fits = refl
reading_count t left (Stage ts) Staged fits = absurd fits
reading_count t left Commit (Status s name number) fits = refl
reading_count t left Cancel Cancelled fits = refl
reading_count t left action a fits = refl

pub count_kept : (t : Totals) (p : SeatView) (n : ℕ) (action : Action) (a : Answer) → FitsSeat t p action a → StagedAt (open_of p) n
    → staged_since_open n action a ≡ count_after (open_of p) n action a
count_kept t Idle n action a fits none = ap (λ m. staged_since_open m action a) none ∙ idle_count t action a fits ∙ sym none
count_kept t (Writing k r g since) n action a fits none = writing_count t k r g since n action a fits
count_kept t (Patching d r since) n action a fits none = ap (λ m. staged_since_open m action a) none ∙ patching_count t d r since action a fits ∙ sym none
count_kept t (Reading left) n action a fits none = ap (λ m. staged_since_open m action a) none ∙ reading_count t left action a fits ∙ sym none

-- a status is the abstract store's, where it was asked something
abbrev pub StatusIs : Totals → Option Asked → ℕ → Type 0
StatusIs t None s = Unit {0}
StatusIs t (Some q) s = s ≡ status_if t.setting (state_of t) q

pub status_is : (t : Totals) (p : SeatView) (action : Action) (a : Answer) → FitsSeat t p action a → StatusIs t (operation_of p action a) (status_in a)
status_is t Idle (Delete d _) (Status s name number) fits = fits.0
status_is t Idle (Head c) (Status s name number) fits = fits.0
status_is t Idle (Pin c) (Pinned s number) fits = fits.0
status_is t (Writing k r g since) Commit (Status s name number) fits = fits.0
status_is t (Patching d r since) (CommitPatch ops) (Status s name number) fits = fits.0
status_is t p action a fits = tt
