-- The seat's phase, and what the abstract store was asked, follow the progress.
use Rattle.std.proofs.Common.{◌≡◌, ℕ, Bool, true, false, cond, ◌==◌, List, [], ◌∷◌, ◌++◌, Option, Some, None, refl, sym, ap, subst, ◌∙◌, append-nil, append_assoc, Vec}
use Rattle.std.specs.List.{cons_option}
use Rattle.std.specs.FinMap as map
use Rattle.gs_model.specs.Triples.{RdfTriple}
use Rattle.gs_model.specs.Graphs.{graph_of, triples_of, with_triples}
use Rattle.gs_model.proofs.GraphLemmas.{graph_of-triples_of}
use Rattle.gs_triple_lists.specs.Lists.{Listed}
use Rattle.gs_event.proofs.SizeLemmas.{turned}
use Rattle.gs_model.specs.declared.refusals.Refusal.TheVariants as why
use Rattle.gs_event.specs.declared.events.Action.TheVariants.{Open, OpenPatch, Stage, Commit, CommitPatch, Delete, Head, Pin, Piece, Cancel}
use Rattle.gs_event.specs.declared.answers.Answer.{Answer}
use Rattle.gs_event.specs.declared.answers.Answer.TheVariants.{Opened, Staged, Status, Pinned, Lines, Cancelled, Refused}
use Rattle.gs_event.specs.Conditions.{asked_since}
use Rattle.gs_event.specs.Phases as phase
use Rattle.gs_event.specs.Phases.{operation_of}
use Rattle.gs_event.specs.Operations as operation
use Rattle.gs_event.specs.declared.updates.Op.{Op}
use Rattle.std.specs.declared.alloc.Global.{Global}
use Rattle.gs_reply.specs.Replies.{lines_head}
use Rattle.gs_verdict.specs.declared.verdicts.Asked.{Asked}
use Rattle.gs_talk.specs.Plans.{Plan, Uploads, Patches, Deletes, Looks, Reads, plan_of}
use Rattle.gs_talk.specs.Progress.{Lack, Move, Did, Short, Progress, NotStarted, Early, UploadOpen, PatchOpen, Lacking, Late, Dropped, Wrote, Patched, Erased, Looked, Missing, Streaming, CancelDue, Cut, Left, Wrong}
use Rattle.gs_talk.specs.Moves.{first, writing, patching, held, ready, progress_after, progress, at_open, at_open_patch, at_delete, at_head, at_pin, at_stage, progress_at_commit, at_commit_patch, at_piece, at_cancel}
use Rattle.gs_talk.specs.Seats.{Deeds, SeatPhase, Point, point_numbered, phase_then, phase_in, asked_in}
use Rattle.gs_talk.specs.Logs.{AllSuit, deed_of, deeds_of, IsRight}
use Rattle.gs_talk.specs.Following.{phase_at, operations_at, writing_phase, read_by}

-- graphs

onto : (ts xs ys : List RdfTriple) → graph_of xs ≡ graph_of ys → graph_of (ts ++ xs) ≡ graph_of (ts ++ ys)
onto [] xs ys e = e
onto (t ∷ ts) xs ys e = ap (λ g. map.insert g t tt) (onto ts xs ys e)

-- triples that come to the graph of others make the graph of both
pub graph_grows : (g ts : List RdfTriple) → with_triples (graph_of g) ts ≡ graph_of (g ++ ts)
graph_grows g ts = turned (triples_of (graph_of g)) ts ∙ onto ts (triples_of (graph_of g)) g (graph_of-triples_of (graph_of g)) ∙ turned ts g

-- one move

-- what a move does to the seat is what it does to the progress
pub record Follows (p : Plan) (c d : Progress) (m : Move) : Type 0 where
  pub seat : phase_in (phase_at p c) (deed_of m) ≡ phase_at p d
  pub asked : operations_at p c ++ asked_in (phase_at p c) (deed_of m) ≡ operations_at p d

open_follows : (k since : _) (answer : Answer) → Follows (Uploads k since) NotStarted (at_open answer) (Did (Open k since) answer)
open_follows k since (Opened r) = record { seat = refl; asked = refl }
open_follows k since (Refused why.NoMemory) = record { seat = refl; asked = refl }
open_follows k since (Refused why.LastNumber) = record { seat = refl; asked = refl }
open_follows k since other = record { seat = refl; asked = refl }

open_patch_follows : (t since : _) (answer : Answer) → Follows (Patches t since) NotStarted (at_open_patch answer) (Did (OpenPatch t since) answer)
open_patch_follows t since (Opened r) = record { seat = refl; asked = refl }
open_patch_follows t since (Refused why.NoMemory) = record { seat = refl; asked = refl }
open_patch_follows t since (Refused why.LastNumber) = record { seat = refl; asked = refl }
open_patch_follows t since other = record { seat = refl; asked = refl }

delete_follows : (t since : _) (answer : Answer) → Follows (Deletes t since) NotStarted (at_delete answer) (Did (Delete t since) answer)
delete_follows t since (Status s name number) = record { seat = refl; asked = refl }
delete_follows t since (Refused why.LastNumber) = record { seat = refl; asked = refl }
delete_follows t since other = record { seat = refl; asked = refl }

head_follows : (t : _) (answer : Answer) → Follows (Looks t) NotStarted (at_head answer) (Did (Head t) answer)
head_follows t (Status s name number) = record { seat = refl; asked = refl }
head_follows t other = record { seat = refl; asked = refl }

pinned_seat : (t : _) (out : List ℕ) (s number : ℕ) (b : Bool) → cond b (phase.Reading tt) phase.Idle ≡ phase_at (Reads t) (cond b (Streaming [] out false) (Missing s number))
pinned_seat t out s number true = refl
pinned_seat t out s number false = refl

pinned_asked : (t : _) (out : List ℕ) (s number : ℕ) (b : Bool) → (0, asked_since None (operation.Reads t)) ∷ [] ≡ operations_at (Reads t) (cond b (Streaming [] out false) (Missing s number))
pinned_asked t out s number true = refl
pinned_asked t out s number false = refl

pin_follows : (a : Asked) (t : _) (answer : Answer) → Follows (Reads t) NotStarted (at_pin a answer) (Did (Pin t) answer)
pin_follows a t (Pinned s number) = record { seat = pinned_seat t (lines_head a.reply number a.closes) s number (s == 200); asked = pinned_asked t (lines_head a.reply number a.closes) s number (s == 200) }
pin_follows a t other = record { seat = refl; asked = refl }

-- the first move

first_follows : (a : Asked) (piece : ℕ) (p : Plan) (m : Move) → AllSuit piece p (m ∷ []) → IsRight (first a p m) → Follows p NotStarted (first a p m) m
first_follows a piece (Uploads k since) (Did (Open j given) answer) s r = subst (λ (q : Plan). Follows q NotStarted (at_open answer) (Did (Open j given) answer)) (sym s.0) (open_follows j given answer)
first_follows a piece (Patches t since) (Did (OpenPatch u given) answer) s r = subst (λ (q : Plan). Follows q NotStarted (at_open_patch answer) (Did (OpenPatch u given) answer)) (sym s.0) (open_patch_follows u given answer)
first_follows a piece (Deletes t since) (Did (Delete u given) answer) s r = subst (λ (q : Plan). Follows q NotStarted (at_delete answer) (Did (Delete u given) answer)) (sym s.0) (delete_follows u given answer)
first_follows a piece (Looks t) (Did (Head u) answer) s r = subst (λ (q : Plan). Follows q NotStarted (at_head answer) (Did (Head u) answer)) (sym s.0) (head_follows u answer)
first_follows a piece (Reads t) (Did (Pin u) answer) s r = subst (λ (q : Plan). Follows q NotStarted (at_pin a answer) (Did (Pin u) answer)) (sym s.0) (pin_follows a u answer)
first_follows a piece p Short s r = record { seat = refl; asked = refl }
first_follows a piece p m s r = absurd r

-- in an upload

staged : (p : Plan) (r : ℕ) (g : List RdfTriple) (v : Listed) (u : List RdfTriple) → v.items ≡ u
    → phase_then (writing_phase p r g) (Stage v, Staged) ≡ writing_phase p r (g ++ u)
staged (Uploads k since) r g v u e = ap (λ z. phase.Writing k r z since) (ap (with_triples (graph_of g)) e ∙ graph_grows g u)
staged p r g v u e = refl

unstaged : (p : Plan) (r : ℕ) (g : List RdfTriple) (v : Listed) (e : _) → phase_then (writing_phase p r g) (Stage v, Refused e) ≡ writing_phase p r g
unstaged (Uploads k since) r g v e = refl
unstaged p r g v e = refl

no_point : (p : Plan) (r : ℕ) (g : List RdfTriple) (v : Listed) (answer : Answer) → operation_of (writing_phase p r g) (Stage v) answer ≡ None
no_point (Uploads k since) r g v answer = refl
no_point p r g v answer = refl

stage_follows : (p : Plan) (r : ℕ) (g : List RdfTriple) (v : Listed) (u : List RdfTriple) (answer : Answer) → v.items ≡ u → IsRight (at_stage r g u answer)
    → Follows p (UploadOpen r g) (at_stage r g u answer) (Did (Stage v) answer)
stage_follows p r g v [] answer e h = absurd h
stage_follows p r g v (t ∷ ts) Staged e h = record { seat = staged p r g v (t ∷ ts) e; asked = rw (no_point p r g v Staged) refl }
stage_follows (Uploads k since) r g v (t ∷ ts) (Refused why.NoMemory) e h = record { seat = refl; asked = refl }
stage_follows (Uploads k since) r g v (t ∷ ts) other e h = record { seat = refl; asked = refl }
stage_follows p r g v (t ∷ ts) (Refused why.NoMemory) e h = record { seat = refl; asked = refl }
stage_follows p r g v (t ∷ ts) other e h = record { seat = refl; asked = refl }

commit_follows : (p : Plan) (r : ℕ) (g : List RdfTriple) (answer : Answer) → Follows p (UploadOpen r g) (progress_at_commit r g answer) (Did Commit answer)
commit_follows (Uploads k since) r g (Status s name number) = record { seat = refl; asked = refl }
commit_follows (Uploads k since) r g (Refused why.NoMemory) = record { seat = refl; asked = refl }
commit_follows (Uploads k since) r g (Refused why.LastNumber) = record { seat = refl; asked = refl }
commit_follows (Uploads k since) r g other = record { seat = refl; asked = refl }
commit_follows p r g (Status s name number) = record { seat = refl; asked = refl }
commit_follows p r g (Refused why.NoMemory) = record { seat = refl; asked = refl }
commit_follows p r g (Refused why.LastNumber) = record { seat = refl; asked = refl }
commit_follows p r g other = record { seat = refl; asked = refl }

drop_follows : (p : Plan) (r : ℕ) (g : List RdfTriple) (answer : Answer) → Follows p (UploadOpen r g) (at_cancel (UploadOpen r g) (Dropped r) answer) (Did Cancel answer)
drop_follows (Uploads k since) r g Cancelled = record { seat = refl; asked = refl }
drop_follows (Uploads k since) r g other = record { seat = refl; asked = refl }
drop_follows p r g Cancelled = record { seat = refl; asked = refl }
drop_follows p r g other = record { seat = refl; asked = refl }

writing_follows : (p : Plan) (r : ℕ) (g : List RdfTriple) (m : Move) → IsRight (writing r g m) → Follows p (UploadOpen r g) (writing r g m) m
writing_follows p r g (Did (Stage v) answer) h = stage_follows p r g v v.items answer refl h
writing_follows p r g (Did Commit answer) h = commit_follows p r g answer
writing_follows p r g (Did Cancel answer) h = drop_follows p r g answer
writing_follows p r g Short h = record { seat = refl; asked = refl }
writing_follows p r g m h = absurd h

-- in a patch

commit_patch_follows : (p : Plan) (r : ℕ) (ops : Vec Op Global) (answer : Answer) → Follows p (PatchOpen r) (at_commit_patch r ops.items answer) (Did (CommitPatch ops) answer)
commit_patch_follows (Patches t since) r ops (Status s name number) = record { seat = refl; asked = refl }
commit_patch_follows (Patches t since) r ops (Refused why.NoMemory) = record { seat = refl; asked = refl }
commit_patch_follows (Patches t since) r ops (Refused why.LastNumber) = record { seat = refl; asked = refl }
commit_patch_follows (Patches t since) r ops other = record { seat = refl; asked = refl }
commit_patch_follows p r ops (Status s name number) = record { seat = refl; asked = refl }
commit_patch_follows p r ops (Refused why.NoMemory) = record { seat = refl; asked = refl }
commit_patch_follows p r ops (Refused why.LastNumber) = record { seat = refl; asked = refl }
commit_patch_follows p r ops other = record { seat = refl; asked = refl }

drop_patch_follows : (p : Plan) (r : ℕ) (answer : Answer) → Follows p (PatchOpen r) (at_cancel (PatchOpen r) (Dropped r) answer) (Did Cancel answer)
drop_patch_follows (Patches t since) r Cancelled = record { seat = refl; asked = refl }
drop_patch_follows (Patches t since) r other = record { seat = refl; asked = refl }
drop_patch_follows p r Cancelled = record { seat = refl; asked = refl }
drop_patch_follows p r other = record { seat = refl; asked = refl }

patching_follows : (p : Plan) (r : ℕ) (m : Move) → IsRight (patching r m) → Follows p (PatchOpen r) (patching r m) m
patching_follows p r (Did (CommitPatch ops) answer) h = commit_patch_follows p r ops answer
patching_follows p r (Did Cancel answer) h = drop_patch_follows p r answer
patching_follows p r Short h = record { seat = refl; asked = refl }
patching_follows p r m h = absurd h

-- in a read

piece_follows : (p : Plan) (n : ℕ) (out due : List ℕ) (answer : Answer) → Follows p (Streaming out due false) (at_piece out due answer) (Did (Piece n) answer)
piece_follows p n out due (Lines b true) = record { seat = refl; asked = append-nil (read_by p) }
piece_follows p n out due (Lines b false) = record { seat = refl; asked = append-nil (read_by p) }
piece_follows p n out due (Refused why.NoMemory) = record { seat = refl; asked = append-nil (read_by p) }
piece_follows p n out due other = record { seat = refl; asked = append-nil (read_by p) }

leave_follows : (p : Plan) (out due : List ℕ) (answer : Answer) → Follows p (Streaming out due false) (at_cancel (Streaming out due false) (Left (out ++ due)) answer) (Did Cancel answer)
leave_follows p out due Cancelled = record { seat = refl; asked = append-nil (read_by p) }
leave_follows p out due other = record { seat = refl; asked = append-nil (read_by p) }

held_follows : (p : Plan) (out due : List ℕ) (end : Bool) (m : Move) → IsRight (held out due end m) → Follows p (Streaming out due end) (held out due end m) m
held_follows p out due false (Did (Piece n) answer) h = piece_follows p n out due answer
held_follows p out due false (Did Cancel answer) h = leave_follows p out due answer
held_follows p out due false Short h = record { seat = refl; asked = append-nil (read_by p) }
held_follows p out due true Short h = record { seat = refl; asked = append-nil (read_by p) }
held_follows p out due end m h = absurd h

-- a Cancel, and want of memory for the reply

cancelled_idle : (s : SeatPhase) → phase_then s (Cancel, Cancelled) ≡ phase.Idle
cancelled_idle phase.Idle = refl
cancelled_idle (phase.Writing k r g since) = refl
cancelled_idle (phase.Patching t r since) = refl
cancelled_idle (phase.Reading left) = refl

cancelled_asks : (s : SeatPhase) (answer : Answer) → operation_of s Cancel answer ≡ None
cancelled_asks phase.Idle answer = refl
cancelled_asks (phase.Writing k r g since) answer = refl
cancelled_asks (phase.Patching t r since) answer = refl
cancelled_asks (phase.Reading left) answer = refl

pub lacking_follows : (p : Plan) (c : Progress) (l : Lack) (answer : Answer) → Follows p (Lacking c l) (at_cancel (Lacking c l) (Late l) answer) (Did Cancel answer)
lacking_follows p c l answer = by_phase (phase_at p c) answer refl where
  by_phase : (s : SeatPhase) (answer : Answer) → phase_at p c ≡ s → Follows p (Lacking c l) (at_cancel (Lacking c l) (Late l) answer) (Did Cancel answer)
  by_phase s Cancelled e = record { seat = cancelled_idle (phase_at p c); asked = rw (cancelled_asks (phase_at p c) Cancelled) refl }
  by_phase phase.Idle other e = record { seat = rw e refl; asked = rw e refl }
  by_phase (phase.Writing k r g since) other e = record { seat = rw e refl; asked = rw e refl }
  by_phase (phase.Patching t r since) other e = record { seat = rw e refl; asked = rw e refl }
  by_phase (phase.Reading left) other e = record { seat = rw e refl; asked = rw e refl }

cutting_follows : (p : Plan) (out : List ℕ) (answer : Answer) → Follows p (CancelDue out) (at_cancel (CancelDue out) (Cut out) answer) (Did Cancel answer)
cutting_follows p out Cancelled = record { seat = refl; asked = append-nil (read_by p) }
cutting_follows p out other = record { seat = refl; asked = append-nil (read_by p) }

ready_follows : (p : Plan) (c : Progress) (m : Move) → IsRight (ready c m) → Follows p c (ready c m) m
ready_follows p c Short h = record { seat = refl; asked = append-nil (operations_at p c) }
ready_follows p c (Did action answer) h = absurd h

-- any move

pub after_follows : (a : Asked) (piece : ℕ) (c : Progress) (m : Move) → AllSuit piece (plan_of a) (m ∷ []) → IsRight (progress_after a c m) → Follows (plan_of a) c (progress_after a c m) m
after_follows a piece NotStarted m s h = first_follows a piece (plan_of a) m s h
after_follows a piece (UploadOpen r g) m s h = writing_follows (plan_of a) r g m h
after_follows a piece (PatchOpen r) m s h = patching_follows (plan_of a) r m h
after_follows a piece (Lacking c l) (Did Cancel answer) s h = lacking_follows (plan_of a) c l answer
after_follows a piece (Lacking c l) m s h = absurd h
after_follows a piece (Streaming out due end) m s h = held_follows (plan_of a) out due end m h
after_follows a piece (CancelDue out) (Did Cancel answer) s h = cutting_follows (plan_of a) out answer
after_follows a piece (CancelDue out) m s h = absurd h
after_follows a piece (Early l) m s h = ready_follows (plan_of a) (Early l) m h
after_follows a piece (Late l) m s h = ready_follows (plan_of a) (Late l) m h
after_follows a piece (Dropped r) m s h = ready_follows (plan_of a) (Dropped r) m h
after_follows a piece (Wrote r g st name number) m s h = ready_follows (plan_of a) (Wrote r g st name number) m h
after_follows a piece (Patched r ops st number) m s h = ready_follows (plan_of a) (Patched r ops st number) m h
after_follows a piece (Erased st number) m s h = ready_follows (plan_of a) (Erased st number) m h
after_follows a piece (Looked st number) m s h = ready_follows (plan_of a) (Looked st number) m h
after_follows a piece (Missing st number) m s h = ready_follows (plan_of a) (Missing st number) m h
after_follows a piece c m s h = absurd h

-- all moves

wrong_stays : (a : Asked) (ms : List Move) → IsRight (progress a Wrong ms) → ⊥
wrong_stays a [] h = h
wrong_stays a (m ∷ ms) h = wrong_stays a ms h

pub right_before : (a : Asked) (c : Progress) (ms : List Move) → IsRight (progress a c ms) → IsRight c
right_before a Wrong ms h = wrong_stays a ms h
right_before a c ms h = tt

pub phase-append : (s : SeatPhase) (d f : Deeds) → phase_in s (d ++ f) ≡ phase_in (phase_in s d) f
phase-append s [] f = refl
phase-append s (d ∷ ds) f = phase-append (phase_then s d) ds f

cons-append : (o : Option Point) (xs ys : List Point) → cons_option o (xs ++ ys) ≡ cons_option o xs ++ ys
cons-append None xs ys = refl
cons-append (Some q) xs ys = refl

pub operations-append : (s : SeatPhase) (d f : Deeds) → asked_in s (d ++ f) ≡ asked_in s d ++ asked_in (phase_in s d) f
operations-append s [] f = refl
operations-append s (d ∷ ds) f =
    ap (λ z. cons_option (point_numbered s (operation_of s d.0 d.1)) z) (operations-append (phase_then s d) ds f)
    ∙ cons-append (point_numbered s (operation_of s d.0 d.1)) (asked_in (phase_then s d) ds) (asked_in (phase_in (phase_then s d) ds) f)

suits_first : (piece : ℕ) (p : Plan) (m : Move) (ms : List Move) → AllSuit piece p (m ∷ ms) → AllSuit piece p (m ∷ []) × AllSuit piece p ms
suits_first piece p (Did action answer) ms s = ((s.0, tt), s.1)
suits_first piece p Short ms s = (tt, s)

-- The seat's phase after some moves, and what the abstract store was asked by them, are those of their progress.
pub progress_follows : (a : Asked) (piece : ℕ) (c : Progress) (ms : List Move) → AllSuit piece (plan_of a) ms → IsRight (progress a c ms)
    → (phase_in (phase_at (plan_of a) c) (deeds_of ms) ≡ phase_at (plan_of a) (progress a c ms))
    × (operations_at (plan_of a) c ++ asked_in (phase_at (plan_of a) c) (deeds_of ms) ≡ operations_at (plan_of a) (progress a c ms))
progress_follows a piece c [] s h = (refl, append-nil (operations_at (plan_of a) c))
progress_follows a piece c (m ∷ ms) s h =
    let p : Plan = plan_of a in
    let k : Follows p c (progress_after a c m) m = after_follows a piece c m (suits_first piece p m ms s).0 (right_before a (progress_after a c m) ms h) in
    let i = progress_follows a piece (progress_after a c m) ms (suits_first piece p m ms s).1 h in (
      phase-append (phase_at p c) (deed_of m) (deeds_of ms) ∙ ap (λ z. phase_in z (deeds_of ms)) k.seat ∙ i.0,
      ap (λ z. operations_at p c ++ z) (operations-append (phase_at p c) (deed_of m) (deeds_of ms) ∙ ap (λ z. asked_in (phase_at p c) (deed_of m) ++ asked_in z (deeds_of ms)) k.seat)
          ∙ sym (append_assoc (operations_at p c) (asked_in (phase_at p c) (deed_of m)) (asked_in (phase_at p (progress_after a c m)) (deeds_of ms)))
          ∙ ap (λ z. z ++ asked_in (phase_at p (progress_after a c m)) (deeds_of ms)) k.asked ∙ i.1,
    )
