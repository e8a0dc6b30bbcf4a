-- Each action of a conversation is one that the phase of its seat allows.
use Rattle.std.proofs.Common.{◌≡◌, ◌≤◌, inl, inr, ℕ, Bool, true, false, cond, List, [], ◌∷◌, ◌++◌, sym, subst, append_assoc, true≢false}
use Rattle.gs_event.specs.Phases as phase
use Rattle.gs_verdict.specs.declared.verdicts.Asked.{Asked}
use Rattle.gs_stream.specs.Requests.{Request, Denied, Asks, Breaks, Waits, requests}
use Rattle.gs_talk.specs.Progress.{Move, Short, Progress, NotStarted, Wrong}
use Rattle.gs_talk.specs.Moves.{progress}
use Rattle.gs_talk.specs.Replies.{BodyState, Whole, Faulty, Unended, Said, Settles}
use Rattle.gs_talk.specs.Seats.{Deeds, SeatPhase, phase_in}
use Rattle.gs_talk.specs.Logs.{Server, Log, AreProper, AnswersAsk, Answered, AnswersAll, IsRight, InHand, Talk, deeds_of, deeds}
use Rattle.gs_talk.proofs.LogLemmas.{Leaves, entry}
use Rattle.gs_session.proofs.AllowLemmas.{AreAllowed, allowed-append, moves_allowed}

proper_allowed : (s : Server) (a : Asked) (b : BodyState) (ms : List Move) → 1 ≤ s.piece → AreProper s a b ms → IsRight (progress a NotStarted ms)
    → AreAllowed phase.Idle (deeds_of ms)
proper_allowed s a b ms few k h = moves_allowed a s.piece NotStarted ms few k.0 tt h

-- where a request is settled, its progress is right
settled_right : (base : List ℕ) (a : Asked) (b : BodyState) (c : Progress) (t : Said) → Settles base a b c t → IsRight c
settled_right base a b Wrong t s = absurd s
settled_right base a b c t s = tt

ask_allowed : (s : Server) (a : Asked) (b : BodyState) (ms : List Move) (t : Said) → 1 ≤ s.piece → AnswersAsk s a b ms t → AreAllowed phase.Idle (deeds_of ms)
ask_allowed s a b ms t few g = proper_allowed s a b ms few g.0 (settled_right s.base a b (progress a NotStarted ms) g.1.0 g.1.1)

-- an entry
entry_allowed : (s : Server) (ended : Bool) (r : Request) (ms : List Move) (t : Said) → 1 ≤ s.piece → Answered s ended r ms t → AreAllowed phase.Idle (deeds_of ms)
entry_allowed s ended (Denied d) [] t few g = tt
entry_allowed s ended (Denied d) (Short ∷ []) t few g = tt
entry_allowed s ended (Denied d) ms t few g = absurd g
entry_allowed s ended (Asks a body) ms t few g = ask_allowed s a (Whole body) ms t few g
entry_allowed s ended (Breaks a front st) ms t few g = ask_allowed s a (Faulty front st) ms t few g
entry_allowed s ended (Waits a front) ms t few g = ask_allowed s a (Unended front ended) ms t few g

none_allowed : (p : SeatPhase) (now : List Move) → now ≡ [] → AreAllowed p (deeds_of now)
none_allowed p now e = subst (λ (ms : List Move). AreAllowed p (deeds_of ms)) (sym e) tt

-- the request at hand
hand_allowed : (s : Server) (ended : Bool) (rs : List Request) (now : List Move) (t : List ℕ) → 1 ≤ s.piece → InHand s ended rs now t
    → AreAllowed phase.Idle (deeds_of now)
hand_allowed s ended [] now t few i = none_allowed phase.Idle now i.0
hand_allowed s ended (Denied d ∷ rs) now t few i = none_allowed phase.Idle now i.0
hand_allowed s ended (Asks a body ∷ rs) now t few i = proper_allowed s a (Whole body) now few i.0 i.1
hand_allowed s ended (Breaks a front st ∷ rs) now t few i = proper_allowed s a (Faulty front st) now few i.0 i.1
hand_allowed s ended (Waits a front ∷ rs) now t few i = proper_allowed s a (Unended front ended) now few i.0 i.1

-- after a reply that closes or stops nothing is done
nothing_allowed : (s : Server) (ended : Bool) (p : SeatPhase) (log : Log) (rest : List Request) (now : List Move) (t : List ℕ) → AnswersAll s ended log [] rest
    → InHand s ended rest now t → AreAllowed p (deeds log ++ deeds_of now)
nothing_allowed s ended p [] rest now t g i = none_allowed p now ((subst (λ (z : List Request). InHand s ended z now t) g i).0)
nothing_allowed s ended p (e ∷ es) rest now t g i = absurd g

-- a log, and the request at hand
log_allowed : (s : Server) (ended : Bool) (log : Log) (rs rest : List Request) (now : List Move) (t : List ℕ) → 1 ≤ s.piece → AnswersAll s ended log rs rest
    → InHand s ended rest now t → AreAllowed phase.Idle (deeds log ++ deeds_of now)
log_allowed s ended [] rs rest now t few g i = hand_allowed s ended rs now t few (subst (λ (z : List Request). InHand s ended z now t) g i)
log_allowed s ended (e ∷ es) [] rest now t few g i = absurd g
log_allowed s ended (e ∷ es) (r ∷ rs) rest now t few g i = go e.goes (entry s ended r e.moves (e.text, e.goes) g.0).rests g.1 (λ h. log_allowed s ended es rs rest now t few h i)
  where
    then : AreAllowed (phase_in phase.Idle (deeds_of e.moves)) (deeds es ++ deeds_of now) → AreAllowed phase.Idle ((deeds_of e.moves ++ deeds es) ++ deeds_of now)
    then k =
        subst (λ (d : Deeds). AreAllowed phase.Idle d) (sym (append_assoc (deeds_of e.moves) (deeds es) (deeds_of now)))
        (allowed-append phase.Idle (deeds_of e.moves) (deeds es ++ deeds_of now) (entry_allowed s ended r e.moves (e.text, e.goes) few g.0) k)

    go : (goes : Bool) → Leaves e.moves (e.text, goes) → AnswersAll s ended es (cond goes rs []) rest
        → (AnswersAll s ended es rs rest → AreAllowed phase.Idle (deeds es ++ deeds_of now))
        → AreAllowed phase.Idle ((deeds_of e.moves ++ deeds es) ++ deeds_of now)
    go true (inl p) h again = then (subst (λ (z : SeatPhase). AreAllowed z (deeds es ++ deeds_of now)) (sym p) (again h))
    go true (inr p) h again = absurd (true≢false p.1)
    go false l h again = then (nothing_allowed s ended _ es rest now t h i)

-- each action of a conversation is allowed
pub talk_allowed : (s : Server) (ended : Bool) (x : List ℕ) (h : Deeds) (said : List ℕ) (rest : List Request) → 1 ≤ s.piece → Talk s ended x h said rest
    → AreAllowed phase.Idle h
talk_allowed s ended x h said rest few k =
    subst (λ (d : Deeds). AreAllowed phase.Idle d) (sym k.done) (log_allowed s ended k.log (requests s.base x) rest k.now k.text few k.answers k.hand)
