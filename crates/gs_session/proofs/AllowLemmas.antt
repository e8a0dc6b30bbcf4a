-- Each action for a request is one that the phase of its seat allows.
use Rattle.std.proofs.Common.{◌≡◌, ◌≤◌, arith, ℕ, Bool, true, false, List, [], ◌∷◌, ◌++◌, refl, sym, ap, subst}
use Rattle.std.proofs.lemmas.Bool.{lt-ltb}
use Rattle.gs_model.specs.Triples.{RdfTriple}
use Rattle.gs_event.specs.declared.events.Action.TheVariants.{Open, OpenPatch, Stage, Commit, CommitPatch, Delete, Head, Pin, Piece, Cancel}
use Rattle.gs_event.specs.Phases as phase
use Rattle.gs_event.specs.Phases.{allows}
use Rattle.gs_verdict.specs.declared.verdicts.Asked.{Asked}
use Rattle.gs_talk.specs.Plans.{Plan, Uploads, Patches, Deletes, Looks, Reads, plan_of}
use Rattle.gs_talk.specs.Progress.{Move, Did, Short, Progress, NotStarted, Early, UploadOpen, PatchOpen, Lacking, Late, Dropped, Wrote, Patched, Erased, Looked, Missing, Streaming, CancelDue, Cut}
use Rattle.gs_talk.specs.Moves.{first, writing, patching, held, cancelling, ready, progress_after, progress}
use Rattle.gs_talk.specs.Following.{phase_at, writing_phase, patching_phase}
use Rattle.gs_talk.specs.Seats.{Deeds, SeatPhase, phase_then, phase_in}
use Rattle.gs_talk.specs.Logs.{AllSuit, IsRight, deed_of, deeds_of}
use Rattle.gs_talk.proofs.ProgressLemmas.{after_follows, right_before}
use Rattle.gs_session.proofs.PlanLemmas.{IsPlanned, drops_upload, drops_patch, after_so}

-- each of these actions is allowed by the phase that those before it leave
abbrev pub AreAllowed : SeatPhase → Deeds → Type 0
AreAllowed p [] = Unit {0}
AreAllowed p (d ∷ ds) = (allows p d.0 ≡ true) × AreAllowed (phase_then p d) ds

pub allowed-append : (p : SeatPhase) (d f : Deeds) → AreAllowed p d → AreAllowed (phase_in p d) f → AreAllowed p (d ++ f)
allowed-append p [] f k j = j
allowed-append p (d ∷ ds) f k j = (k.0, allowed-append (phase_then p d) ds f k.1 j)

-- the first move

first_allowed : (a : Asked) (p : Plan) (m : Move) → IsRight (first a p m) → AreAllowed phase.Idle (deed_of m)
first_allowed a (Uploads k since) (Did (Open j given) answer) h = (refl, tt)
first_allowed a (Patches t since) (Did (OpenPatch u given) answer) h = (refl, tt)
first_allowed a (Deletes t since) (Did (Delete u given) answer) h = (refl, tt)
first_allowed a (Looks t) (Did (Head u) answer) h = (refl, tt)
first_allowed a (Reads t) (Did (Pin u) answer) h = (refl, tt)
first_allowed a p Short h = tt
first_allowed a p m h = absurd h

-- in an upload

writing_allowed : (p : Plan) (r : ℕ) (g : List RdfTriple) (m : Move) → IsPlanned p (UploadOpen r g) → IsRight (writing r g m) → AreAllowed (writing_phase p r g) (deed_of m)
writing_allowed p r g (Did (Stage v) answer) o h = (ap (λ (q : Plan). allows (writing_phase q r g) (Stage v)) o.2, tt)
writing_allowed p r g (Did Commit answer) o h = (ap (λ (q : Plan). allows (writing_phase q r g) Commit) o.2, tt)
writing_allowed p r g (Did Cancel answer) o h = (drops_upload p r g o, tt)
writing_allowed p r g Short o h = tt
writing_allowed p r g m o h = absurd h

-- in a patch

patching_allowed : (p : Plan) (r : ℕ) (m : Move) → IsPlanned p (PatchOpen r) → IsRight (patching r m) → AreAllowed (patching_phase p r) (deed_of m)
patching_allowed p r (Did (CommitPatch ops) answer) o h = (ap (λ (q : Plan). allows (patching_phase q r) (CommitPatch ops)) o.2, tt)
patching_allowed p r (Did Cancel answer) o h = (drops_patch p r o, tt)
patching_allowed p r Short o h = tt
patching_allowed p r m o h = absurd h

-- in a read

held_allowed : (piece : ℕ) (p : Plan) (out due : List ℕ) (end : Bool) (m : Move) → 1 ≤ piece → AllSuit piece p (m ∷ []) → IsRight (held out due end m)
    → AreAllowed (phase_at p (Streaming out due end)) (deed_of m)
held_allowed piece p out due false (Did (Piece n) answer) few s h = (lt-ltb 0 n (omega (arith, few, s.0)), tt)
held_allowed piece p out due false (Did Cancel answer) few s h = (refl, tt)
held_allowed piece p out due false Short few s h = tt
held_allowed piece p out due true Short few s h = tt
held_allowed piece p out due end m few s h = absurd h

-- where a Cancel alone may come

cancelling_allowed : (p : SeatPhase) (c d : Progress) (m : Move) → allows p Cancel ≡ true → IsRight (cancelling c d m) → AreAllowed p (deed_of m)
cancelling_allowed p c d (Did Cancel answer) o h = (o, tt)
cancelling_allowed p c d m o h = absurd h

-- where nothing may come

ready_allowed : (p : SeatPhase) (c : Progress) (m : Move) → IsRight (ready c m) → AreAllowed p (deed_of m)
ready_allowed p c Short h = tt
ready_allowed p c (Did action answer) h = absurd h

-- any move

after_allowed : (a : Asked) (piece : ℕ) (c : Progress) (m : Move) → 1 ≤ piece → AllSuit piece (plan_of a) (m ∷ []) → IsPlanned (plan_of a) c → IsRight (progress_after a c m)
    → AreAllowed (phase_at (plan_of a) c) (deed_of m)
after_allowed a piece NotStarted m few s o h = first_allowed a (plan_of a) m h
after_allowed a piece (UploadOpen r g) m few s o h = writing_allowed (plan_of a) r g m o h
after_allowed a piece (PatchOpen r) m few s o h = patching_allowed (plan_of a) r m o h
after_allowed a piece (Lacking c l) m few s o h = cancelling_allowed (phase_at (plan_of a) c) (Lacking c l) (Late l) m o h
after_allowed a piece (Streaming out due end) m few s o h = held_allowed piece (plan_of a) out due end m few s h
after_allowed a piece (CancelDue out) m few s o h = cancelling_allowed (phase.Reading tt) (CancelDue out) (Cut out) m refl h
after_allowed a piece (Early l) m few s o h = ready_allowed _ (Early l) m h
after_allowed a piece (Late l) m few s o h = ready_allowed _ (Late l) m h
after_allowed a piece (Dropped r) m few s o h = ready_allowed _ (Dropped r) m h
after_allowed a piece (Wrote r g st name number) m few s o h = ready_allowed _ (Wrote r g st name number) m h
after_allowed a piece (Patched r ops st number) m few s o h = ready_allowed _ (Patched r ops st number) m h
after_allowed a piece (Erased st number) m few s o h = ready_allowed _ (Erased st number) m h
after_allowed a piece (Looked st number) m few s o h = ready_allowed _ (Looked st number) m h
after_allowed a piece (Missing st number) m few s o h = ready_allowed _ (Missing st number) m h
after_allowed a piece c m few s o h = absurd h

-- all moves of a request

pub moves_allowed : (a : Asked) (piece : ℕ) (c : Progress) (ms : List Move) → 1 ≤ piece → AllSuit piece (plan_of a) ms → IsPlanned (plan_of a) c
    → IsRight (progress a c ms) → AreAllowed (phase_at (plan_of a) c) (deeds_of ms)
moves_allowed a piece c [] few s o h = tt
moves_allowed a piece c (m ∷ ms) few s o h = go m s (right_before a (progress_after a c m) ms h) (λ u. moves_allowed a piece (progress_after a c m) ms few u (after_so a c m o) h)
  where
    both : (m : Move) → AllSuit piece (plan_of a) (m ∷ []) → IsRight (progress_after a c m) → AreAllowed (phase_at (plan_of a) (progress_after a c m)) (deeds_of ms)
        → AreAllowed (phase_at (plan_of a) c) (deed_of m ++ deeds_of ms)
    both m u r k =
        allowed-append (phase_at (plan_of a) c) (deed_of m) (deeds_of ms) (after_allowed a piece c m few u o r)
        (subst (λ (p : SeatPhase). AreAllowed p (deeds_of ms)) (sym (after_follows a piece c m u r).seat) k)

    go : (m : Move) → AllSuit piece (plan_of a) (m ∷ ms) → IsRight (progress_after a c m)
        → (AllSuit piece (plan_of a) ms → AreAllowed (phase_at (plan_of a) (progress_after a c m)) (deeds_of ms)) → AreAllowed (phase_at (plan_of a) c) (deed_of m ++ deeds_of ms)
    go (Did action answer) s r k = both (Did action answer) (s.0, tt) r (k s.1)
    go Short s r k = both Short tt r (k s)
