-- A progress breaks only by an answer that no store gives to a session that has a seat for itself.
use Rattle.std.proofs.Common.{◌≡◌, ◌⊎◌, inl, inr, ℕ, Bool, true, false, cond, ◌==◌, List, [], ◌∷◌, ◌++◌, Option, Some, None, MatchOption, refl, ap, Vec}
use Rattle.std.specs.declared.alloc.Global.{Global}
use Rattle.std.specs.List.{slice_get}
use Rattle.gs_model.specs.Triples.{RdfTriple}
use Rattle.gs_model.specs.declared.refusals.Refusal.TheVariants as why
use Rattle.gs_triple_lists.specs.Lists.{Listed}
use Rattle.gs_event.specs.declared.updates.Op.{Op}
use Rattle.gs_event.specs.declared.events.Action.{Action}
use Rattle.gs_event.specs.declared.events.Action.TheVariants.{Open, OpenPatch, Stage, Commit, CommitPatch, Delete, Head, Pin, Piece, Cancel}
use Rattle.gs_event.specs.declared.events.Event.TheVariants.{Seat}
use Rattle.gs_event.specs.declared.answers.Answer.{Answer}
use Rattle.gs_event.specs.declared.answers.Answer.TheVariants.{Opened, Staged, Status, Pinned, Lines, Cancelled, Refused}
use Rattle.gs_event.specs.Phases as phase
use Rattle.gs_event.specs.Views.{Totals, SeatView, FitsSeat}
use Rattle.gs_door.specs.Kinds.{IsOfKind}
use Rattle.gs_verdict.specs.declared.verdicts.Asked.{Asked}
use Rattle.gs_talk.specs.Plans.{Plan, Uploads, Patches, Deletes, Looks, Reads, plan_of}
use Rattle.gs_talk.specs.Progress.{Move, Did, Short, Progress, NotStarted, Early, UploadOpen, PatchOpen, Lacking, Late, Dropped, Wrote, Patched, Erased, Looked, Missing, Streaming, CancelDue, Cut, Left, Mute, Misanswered}
use Rattle.gs_talk.specs.Moves.{first, writing, patching, held, ready, progress_after, progress, at_open, at_open_patch, at_delete, at_head, at_pin, at_stage, progress_at_commit, at_commit_patch, at_piece, at_cancel}
use Rattle.gs_talk.specs.Seats.{Deeds}
use Rattle.gs_talk.specs.Logs.{deed_of, deeds_of}
use Rattle.gs_talk.specs.Laws.{is_misfit, HasMisfit, AreOfKind}

-- the door gave an answer that it should not
abbrev pub IsBroken : Progress → Type 0
IsBroken (Misanswered c) = Unit {0}
IsBroken (Mute c) = IsBroken c
IsBroken c = ⊥

-- an answer of a kind fits at some view, or there is no such seat
of_kind : (s : ℕ) (action : Action) (answer : Answer) → IsOfKind (Seat s action) answer
    → ((v : Totals) (p : SeatView) → FitsSeat v p action answer → is_misfit answer ≡ true) → is_misfit answer ≡ true
of_kind s action answer k then = go (slice_get k.0.seats s) k.1 where
  go : (o : Option SeatView) → MatchOption o (answer ≡ Refused why.BadSeat) (λ p. FitsSeat k.0.totals p action answer) → is_misfit answer ≡ true
  go None e = ap is_misfit e
  go (Some p) f = then k.0.totals p f

open_misfit : (v : Totals) (p : SeatView) (k since : _) (answer : Answer) → FitsSeat v p (Open k since) answer → IsBroken (at_open answer) → is_misfit answer ≡ true
open_misfit v p k since (Opened r) f b = absurd b
open_misfit v p k since (Refused why.NoMemory) f b = absurd b
open_misfit v p k since (Refused why.LastNumber) f b = absurd b
open_misfit v p k since (Refused why.WrongPhase) f b = refl
open_misfit v p k since (Refused why.BadSeat) f b = refl
open_misfit v phase.Idle k since answer f b = absurd f
open_misfit v (phase.Writing j r g w) k since answer f b = absurd f
open_misfit v (phase.Patching t r w) k since answer f b = absurd f
open_misfit v (phase.Reading l) k since answer f b = absurd f

open_patch_misfit : (v : Totals) (p : SeatView) (u since : _) (answer : Answer) → FitsSeat v p (OpenPatch u since) answer → IsBroken (at_open_patch answer) → is_misfit answer ≡ true
open_patch_misfit v p u since (Opened r) f b = absurd b
open_patch_misfit v p u since (Refused why.NoMemory) f b = absurd b
open_patch_misfit v p u since (Refused why.LastNumber) f b = absurd b
open_patch_misfit v p u since (Refused why.WrongPhase) f b = refl
open_patch_misfit v p u since (Refused why.BadSeat) f b = refl
open_patch_misfit v phase.Idle u since answer f b = absurd f
open_patch_misfit v (phase.Writing j r g w) u since answer f b = absurd f
open_patch_misfit v (phase.Patching t r w) u since answer f b = absurd f
open_patch_misfit v (phase.Reading l) u since answer f b = absurd f

delete_misfit : (v : Totals) (p : SeatView) (u since : _) (answer : Answer) → FitsSeat v p (Delete u since) answer → IsBroken (at_delete answer) → is_misfit answer ≡ true
delete_misfit v p u since (Status s name number) f b = absurd b
delete_misfit v p u since (Refused why.LastNumber) f b = absurd b
delete_misfit v p u since (Refused why.WrongPhase) f b = refl
delete_misfit v p u since (Refused why.BadSeat) f b = refl
delete_misfit v phase.Idle u since answer f b = absurd f
delete_misfit v (phase.Writing j r g w) u since answer f b = absurd f
delete_misfit v (phase.Patching t r w) u since answer f b = absurd f
delete_misfit v (phase.Reading l) u since answer f b = absurd f

head_misfit : (v : Totals) (p : SeatView) (u : _) (answer : Answer) → FitsSeat v p (Head u) answer → IsBroken (at_head answer) → is_misfit answer ≡ true
head_misfit v p u (Status s name number) f b = absurd b
head_misfit v p u (Refused why.WrongPhase) f b = refl
head_misfit v p u (Refused why.BadSeat) f b = refl
head_misfit v phase.Idle u answer f b = absurd f
head_misfit v (phase.Writing j r g w) u answer f b = absurd f
head_misfit v (phase.Patching t r w) u answer f b = absurd f
head_misfit v (phase.Reading l) u answer f b = absurd f

pinned_stands : (out : List ℕ) (s number : ℕ) (b : Bool) → IsBroken (cond b (Streaming [] out false) (Missing s number)) → ⊥
pinned_stands out s number true b = b
pinned_stands out s number false b = b

pin_misfit : (a : Asked) (v : Totals) (p : SeatView) (u : _) (answer : Answer) → FitsSeat v p (Pin u) answer → IsBroken (at_pin a answer) → is_misfit answer ≡ true
pin_misfit a v p u (Pinned s number) f b = absurd (pinned_stands _ s number (s == 200) b)
pin_misfit a v p u (Refused why.WrongPhase) f b = refl
pin_misfit a v p u (Refused why.BadSeat) f b = refl
pin_misfit a v phase.Idle u answer f b = absurd f
pin_misfit a v (phase.Writing j r g w) u answer f b = absurd f
pin_misfit a v (phase.Patching t r w) u answer f b = absurd f
pin_misfit a v (phase.Reading l) u answer f b = absurd f

stage_misfit : (v : Totals) (p : SeatView) (r : ℕ) (g us : List RdfTriple) (ts : Listed) (answer : Answer) → FitsSeat v p (Stage ts) answer → IsBroken (at_stage r g us answer) → is_misfit answer ≡ true
stage_misfit v p r g [] ts answer f b = absurd b
stage_misfit v p r g (u ∷ us) ts Staged f b = absurd b
stage_misfit v p r g (u ∷ us) ts (Refused why.NoMemory) f b = absurd b
stage_misfit v p r g (u ∷ us) ts (Refused why.WrongPhase) f b = refl
stage_misfit v p r g (u ∷ us) ts (Refused why.BadSeat) f b = refl
stage_misfit v phase.Idle r g (u ∷ us) ts answer f b = absurd f
stage_misfit v (phase.Writing j i h w) r g (u ∷ us) ts answer f b = absurd f
stage_misfit v (phase.Patching t i w) r g (u ∷ us) ts answer f b = absurd f
stage_misfit v (phase.Reading l) r g (u ∷ us) ts answer f b = absurd f

commit_misfit : (v : Totals) (p : SeatView) (r : ℕ) (g : List RdfTriple) (answer : Answer) → FitsSeat v p Commit answer → IsBroken (progress_at_commit r g answer) → is_misfit answer ≡ true
commit_misfit v p r g (Status s name number) f b = absurd b
commit_misfit v p r g (Refused why.NoMemory) f b = absurd b
commit_misfit v p r g (Refused why.LastNumber) f b = absurd b
commit_misfit v p r g (Refused why.WrongPhase) f b = refl
commit_misfit v p r g (Refused why.BadSeat) f b = refl
commit_misfit v phase.Idle r g answer f b = absurd f
commit_misfit v (phase.Writing j i h w) r g answer f b = absurd f
commit_misfit v (phase.Patching t i w) r g answer f b = absurd f
commit_misfit v (phase.Reading l) r g answer f b = absurd f

commit_patch_misfit : (v : Totals) (p : SeatView) (r : ℕ) (us : List Op) (ops : Vec Op Global) (answer : Answer) → FitsSeat v p (CommitPatch ops) answer → IsBroken (at_commit_patch r us answer) → is_misfit answer ≡ true
commit_patch_misfit v p r us ops (Status s name number) f b = absurd b
commit_patch_misfit v p r us ops (Refused why.NoMemory) f b = absurd b
commit_patch_misfit v p r us ops (Refused why.LastNumber) f b = absurd b
commit_patch_misfit v p r us ops (Refused why.WrongPhase) f b = refl
commit_patch_misfit v p r us ops (Refused why.BadSeat) f b = refl
commit_patch_misfit v phase.Idle r us ops answer f b = absurd f
commit_patch_misfit v (phase.Writing j i h w) r us ops answer f b = absurd f
commit_patch_misfit v (phase.Patching t i w) r us ops answer f b = absurd f
commit_patch_misfit v (phase.Reading l) r us ops answer f b = absurd f

piece_misfit : (v : Totals) (p : SeatView) (n : ℕ) (out due : List ℕ) (answer : Answer) → FitsSeat v p (Piece n) answer → IsBroken (at_piece out due answer) → is_misfit answer ≡ true
piece_misfit v p n out due (Lines bytes end) f b = absurd b
piece_misfit v p n out due (Refused why.NoMemory) f b = absurd b
piece_misfit v p n out due (Refused why.WrongPhase) f b = refl
piece_misfit v p n out due (Refused why.BadSeat) f b = refl
piece_misfit v phase.Idle n out due answer f b = absurd f
piece_misfit v (phase.Writing j i h w) n out due answer f b = absurd f
piece_misfit v (phase.Patching t i w) n out due answer f b = absurd f
piece_misfit v (phase.Reading l) n out due answer f b = absurd f

cancel_misfit : (v : Totals) (p : SeatView) (c d : Progress) (answer : Answer) → (IsBroken d → ⊥) → FitsSeat v p Cancel answer → IsBroken (at_cancel c d answer) → is_misfit answer ≡ true
cancel_misfit v p c d Cancelled n f b = absurd (n b)
cancel_misfit v p c d (Refused why.WrongPhase) n f b = refl
cancel_misfit v p c d (Refused why.BadSeat) n f b = refl
cancel_misfit v phase.Idle c d answer n f b = absurd f
cancel_misfit v (phase.Writing j i h w) c d answer n f b = absurd f
cancel_misfit v (phase.Patching t i w) c d answer n f b = absurd f
cancel_misfit v (phase.Reading l) c d answer n f b = absurd f

cancelled : (s : ℕ) (c d : Progress) (answer : Answer) → (IsBroken d → ⊥) → IsOfKind (Seat s Cancel) answer → IsBroken (at_cancel c d answer) → is_misfit answer ≡ true
cancelled s c d answer n k b = of_kind s Cancel answer k (λ v p f. cancel_misfit v p c d answer n f b)

first_misfit : (a : Asked) (s : ℕ) (p : Plan) (m : Move) → AreOfKind s (deed_of m) → IsBroken (first a p m) → HasMisfit (deed_of m)
first_misfit a s (Uploads k since) (Did (Open j given) answer) o b = inl (of_kind s (Open j given) answer o.0 (λ v p f. open_misfit v p j given answer f b))
first_misfit a s (Patches t since) (Did (OpenPatch u given) answer) o b = inl (of_kind s (OpenPatch u given) answer o.0 (λ v p f. open_patch_misfit v p u given answer f b))
first_misfit a s (Deletes t since) (Did (Delete u given) answer) o b = inl (of_kind s (Delete u given) answer o.0 (λ v p f. delete_misfit v p u given answer f b))
first_misfit a s (Looks t) (Did (Head u) answer) o b = inl (of_kind s (Head u) answer o.0 (λ v p f. head_misfit v p u answer f b))
first_misfit a s (Reads t) (Did (Pin u) answer) o b = inl (of_kind s (Pin u) answer o.0 (λ v p f. pin_misfit a v p u answer f b))
first_misfit a s p Short o b = absurd b
first_misfit a s p m o b = absurd b

writing_misfit : (s r : ℕ) (g : List RdfTriple) (m : Move) → AreOfKind s (deed_of m) → IsBroken (writing r g m) → HasMisfit (deed_of m)
writing_misfit s r g (Did (Stage ts) answer) o b = inl (of_kind s (Stage ts) answer o.0 (λ v p f. stage_misfit v p r g ts.items ts answer f b))
writing_misfit s r g (Did Commit answer) o b = inl (of_kind s Commit answer o.0 (λ v p f. commit_misfit v p r g answer f b))
writing_misfit s r g (Did Cancel answer) o b = inl (cancelled s (UploadOpen r g) (Dropped r) answer (λ z. z) o.0 b)
writing_misfit s r g Short o b = absurd b
writing_misfit s r g m o b = absurd b

patching_misfit : (s r : ℕ) (m : Move) → AreOfKind s (deed_of m) → IsBroken (patching r m) → HasMisfit (deed_of m)
patching_misfit s r (Did (CommitPatch ops) answer) o b = inl (of_kind s (CommitPatch ops) answer o.0 (λ v p f. commit_patch_misfit v p r ops.items ops answer f b))
patching_misfit s r (Did Cancel answer) o b = inl (cancelled s (PatchOpen r) (Dropped r) answer (λ z. z) o.0 b)
patching_misfit s r Short o b = absurd b
patching_misfit s r m o b = absurd b

held_misfit : (s : ℕ) (out due : List ℕ) (end : Bool) (m : Move) → AreOfKind s (deed_of m) → IsBroken (held out due end m) → HasMisfit (deed_of m)
held_misfit s out due false (Did (Piece n) answer) o b = inl (of_kind s (Piece n) answer o.0 (λ v p f. piece_misfit v p n out due answer f b))
held_misfit s out due false (Did Cancel answer) o b = inl (cancelled s (Streaming out due false) (Left (out ++ due)) answer (λ z. z) o.0 b)
held_misfit s out due false Short o b = absurd b
held_misfit s out due true Short o b = absurd b
held_misfit s out due end m o b = absurd b

ready_misfit : (c : Progress) (m : Move) → IsBroken (ready c m) → IsBroken c
ready_misfit c Short b = b
ready_misfit c (Did action answer) b = absurd b

after_misfit : (a : Asked) (s : ℕ) (c : Progress) (m : Move) → AreOfKind s (deed_of m) → IsBroken (progress_after a c m) → IsBroken c ⊎ HasMisfit (deed_of m)
after_misfit a s NotStarted m o b = inr (first_misfit a s (plan_of a) m o b)
after_misfit a s (UploadOpen r g) m o b = inr (writing_misfit s r g m o b)
after_misfit a s (PatchOpen r) m o b = inr (patching_misfit s r m o b)
after_misfit a s (Lacking c l) (Did Cancel answer) o b = inr (inl (cancelled s (Lacking c l) (Late l) answer (λ z. z) o.0 b))
after_misfit a s (Lacking c l) m o b = absurd b
after_misfit a s (Streaming out due end) m o b = inr (held_misfit s out due end m o b)
after_misfit a s (CancelDue out) (Did Cancel answer) o b = inr (inl (cancelled s (CancelDue out) (Cut out) answer (λ z. z) o.0 b))
after_misfit a s (CancelDue out) m o b = absurd b
after_misfit a s (Early l) m o b = inl (ready_misfit (Early l) m b)
after_misfit a s (Late l) m o b = inl (ready_misfit (Late l) m b)
after_misfit a s (Dropped r) m o b = inl (ready_misfit (Dropped r) m b)
after_misfit a s (Wrote r g st name number) m o b = inl (ready_misfit (Wrote r g st name number) m b)
after_misfit a s (Patched r ops st number) m o b = inl (ready_misfit (Patched r ops st number) m b)
after_misfit a s (Erased st number) m o b = inl (ready_misfit (Erased st number) m b)
after_misfit a s (Looked st number) m o b = inl (ready_misfit (Looked st number) m b)
after_misfit a s (Missing st number) m o b = inl (ready_misfit (Missing st number) m b)
after_misfit a s c m o b = absurd b

pub misfit-append : (d f : Deeds) → HasMisfit d ⊎ HasMisfit f → HasMisfit (d ++ f)
misfit-append [] f (inl p) = absurd p
misfit-append [] f (inr p) = p
misfit-append (d ∷ ds) f (inl (inl p)) = inl p
misfit-append (d ∷ ds) f (inl (inr p)) = inr (misfit-append ds f (inl p))
misfit-append (d ∷ ds) f (inr p) = inr (misfit-append ds f (inr p))

pub kinds-front : (s : ℕ) (d f : Deeds) → AreOfKind s (d ++ f) → AreOfKind s d
kinds-front s [] f k = tt
kinds-front s (d ∷ ds) f k = (k.0, kinds-front s ds f k.1)

pub kinds-rest : (s : ℕ) (d f : Deeds) → AreOfKind s (d ++ f) → AreOfKind s f
kinds-rest s [] f k = k
kinds-rest s (d ∷ ds) f k = kinds-rest s ds f k.1

-- A progress breaks only by such an answer.
pub progress_misfit : (a : Asked) (s : ℕ) (c : Progress) (ms : List Move) → AreOfKind s (deeds_of ms) → IsBroken (progress a c ms) → IsBroken c ⊎ HasMisfit (deeds_of ms)
progress_misfit a s c [] o b = inl b
progress_misfit a s c (m ∷ ms) o b = go (progress_misfit a s (progress_after a c m) ms (kinds-rest s (deed_of m) (deeds_of ms) o) b) where
  here : IsBroken c ⊎ HasMisfit (deed_of m) → IsBroken c ⊎ HasMisfit (deed_of m ++ deeds_of ms)
  here (inl p) = inl p
  here (inr p) = inr (misfit-append (deed_of m) (deeds_of ms) (inl p))

  go : IsBroken (progress_after a c m) ⊎ HasMisfit (deeds_of ms) → IsBroken c ⊎ HasMisfit (deed_of m ++ deeds_of ms)
  go (inl p) = here (after_misfit a s c m (kinds-front s (deed_of m) (deeds_of ms) o) p)
  go (inr p) = inr (misfit-append (deed_of m) (deeds_of ms) (inr p))
