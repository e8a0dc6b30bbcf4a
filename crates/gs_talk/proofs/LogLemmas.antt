-- What a log says of the points of a conversation, and of its seat.
use Rattle.std.proofs.Common.{◌≡◌, ◌⊎◌, inl, inr, ℕ, Bool, true, false, cond, List, [], ◌∷◌, ◌++◌, refl, sym, ap, subst, ◌∙◌, append-nil, append_assoc}
use Rattle.gs_model.specs.Triples.{RdfTriple}
use Rattle.gs_event.specs.declared.updates.Op.{Op}
use Rattle.gs_event.specs.Phases as phase
use Rattle.gs_verdict.specs.declared.verdicts.Asked.{Asked}
use Rattle.gs_stream.specs.Requests.{Request, Denied, Asks, Breaks, Waits, requests}
use Rattle.gs_talk.specs.Plans.{Plan, Uploads, Patches, Deletes, Looks, Reads, plan_of}
use Rattle.gs_talk.specs.Bodies.{States, Orders}
use Rattle.gs_talk.specs.Progress.{Move, Short, Progress, NotStarted, Early, Late, Dropped, Wrote, Patched, Erased, Looked, Missing, Streaming, CancelDue, Cut, Left, Mute, Misanswered, Memory, Numbers}
use Rattle.gs_talk.specs.Moves.{progress}
use Rattle.gs_talk.specs.Replies.{BodyState, Whole, Faulty, Unended, Said, OfWhole, IsWhole, IsOwn, IsGreeted, Settles}
use Rattle.gs_talk.specs.Seats.{Deeds, SeatPhase, Point, phase_in, asked_in}
use Rattle.gs_talk.specs.Logs.{Server, Log, AreProper, AllSuit, IsRight, Answered, AnswersAsk, AnswersAll, InHand, Talk, deeds_of, deeds}
use Rattle.gs_talk.specs.Following.{phase_at, operations_at, written_by, patched_by, erased_by, looked_by, read_by}
use Rattle.gs_talk.specs.Points.{IsAskedBy, IsPointOf, ArePointsOf}
use Rattle.gs_talk.specs.Laws.{HasMisfit, AreOfKind, IsIdle}
use Rattle.gs_talk.proofs.ProgressLemmas.{progress_follows, phase-append, operations-append}
use Rattle.gs_talk.proofs.KindLemmas.{IsBroken, progress_misfit, misfit-append, kinds-front, kinds-rest}

-- the points of one request

-- none, or one that a request with this body asks
abbrev pub OwnPoints : List ℕ → Asked → BodyState → Plan → List Point → Type 0
OwnPoints base a b p [] = Unit {0}
OwnPoints base a b p (q ∷ []) = OfWhole b (λ body. IsAskedBy base a body p q)
OwnPoints base a b p qs = ⊥

of-whole : (b : BodyState) (P Q : List ℕ → Type 0) → ((body : List ℕ) → P body → Q body) → OfWhole b P → OfWhole b Q
of-whole (Whole body) P Q f o = f body o
of-whole (Faulty front s) P Q f o = absurd o
of-whole (Unended front ended) P Q f o = absurd o

wrote_points : (base : List ℕ) (a : Asked) (b : BodyState) (p : Plan) (r : ℕ) (g : List RdfTriple) → OfWhole b (λ body. States base a r body g) → OwnPoints base a b p (written_by p r g)
wrote_points base a b (Uploads k since) r g o = of-whole b (λ body. States base a r body g) _ (λ body s. (g, s, refl)) o
wrote_points base a b p r g o = tt

patched_points : (base : List ℕ) (a : Asked) (b : BodyState) (p : Plan) (r : ℕ) (ops : List Op) → OfWhole b (λ body. Orders base a r body ops) → OwnPoints base a b p (patched_by p r ops)
patched_points base a b (Patches t since) r ops o = of-whole b (λ body. Orders base a r body ops) _ (λ body s. (ops, s, refl)) o
patched_points base a b p r ops o = tt

erased_points : (base : List ℕ) (a : Asked) (b : BodyState) (p : Plan) → IsWhole b → OwnPoints base a b p (erased_by p)
erased_points base a b (Deletes t since) o = of-whole b (λ body. Unit {0}) _ (λ body s. refl) o
erased_points base a b p o = tt

looked_points : (base : List ℕ) (a : Asked) (b : BodyState) (p : Plan) → IsWhole b → OwnPoints base a b p (looked_by p)
looked_points base a b (Looks t) o = of-whole b (λ body. Unit {0}) _ (λ body s. refl) o
looked_points base a b p o = tt

read_points : (base : List ℕ) (a : Asked) (b : BodyState) (p : Plan) → IsWhole b → OwnPoints base a b p (read_by p)
read_points base a b (Reads t) o = of-whole b (λ body. Unit {0}) _ (λ body s. refl) o
read_points base a b p o = tt

own_points : (base : List ℕ) (a : Asked) (b : BodyState) (p : Plan) (c : Progress) → IsOwn base a b c → OwnPoints base a b p (operations_at p c)
own_points base a b p (Wrote r g s name number) o = wrote_points base a b p r g o
own_points base a b p (Patched r ops s number) o = patched_points base a b p r ops o
own_points base a b p (Erased s number) o = erased_points base a b p o
own_points base a b p (Looked s number) o = looked_points base a b p o
own_points base a b p (Missing s number) o = read_points base a b p o
own_points base a b p (Streaming out due end) o = read_points base a b p o
own_points base a b p (CancelDue out) o = read_points base a b p o
own_points base a b p (Cut out) o = read_points base a b p o
own_points base a b p (Left out) o = read_points base a b p o
own_points base a b p (Mute c) o = own_points base a b p c o
own_points base a b p (Misanswered c) o = own_points base a b p c o
own_points base a b p c o = tt

-- the moves of a request, so far or at its end
proper_points : (s : Server) (a : Asked) (b : BodyState) (ms : List Move) → AreProper s a b ms → IsRight (progress a NotStarted ms) → OwnPoints s.base a b (plan_of a) (asked_in phase.Idle (deeds_of ms))
proper_points s a b ms k h =
    subst (λ (qs : List Point). OwnPoints s.base a b (plan_of a) qs) (sym (progress_follows a s.piece NotStarted ms k.0 h).1)
    (own_points s.base a b (plan_of a) (progress a NotStarted ms) k.1)

-- none, or one that this request asks
abbrev pub RequestPoints : List ℕ → Request → List Point → Type 0
RequestPoints base r [] = Unit {0}
RequestPoints base r (q ∷ []) = IsPointOf base r q
RequestPoints base r qs = ⊥

whole_points : (base : List ℕ) (a : Asked) (body : List ℕ) (qs : List Point) → OwnPoints base a (Whole body) (plan_of a) qs → RequestPoints base (Asks a body) qs
whole_points base a body [] o = tt
whole_points base a body (q ∷ []) o = o
whole_points base a body (q ∷ (u ∷ us)) o = absurd o

faulty_points : (base : List ℕ) (a : Asked) (front : List ℕ) (s : ℕ) (qs : List Point) → OwnPoints base a (Faulty front s) (plan_of a) qs → RequestPoints base (Breaks a front s) qs
faulty_points base a front s [] o = tt
faulty_points base a front s (q ∷ []) o = o
faulty_points base a front s (q ∷ (u ∷ us)) o = absurd o

open_points : (base : List ℕ) (a : Asked) (front : List ℕ) (ended : Bool) (qs : List Point) → OwnPoints base a (Unended front ended) (plan_of a) qs → RequestPoints base (Waits a front) qs
open_points base a front ended [] o = tt
open_points base a front ended (q ∷ []) o = o
open_points base a front ended (q ∷ (u ∷ us)) o = absurd o

-- what answers a request

-- the seat is idle, or the progress is broken and the connection ends
abbrev pub Rests : Plan → Progress → Said → Type 0
Rests p c t = (phase_at p c ≡ phase.Idle) ⊎ (IsBroken c × (t.1 ≡ false))

settled : (base : List ℕ) (a : Asked) (b : BodyState) (p : Plan) (c : Progress) (t : Said) → Settles base a b c t → IsRight c × Rests p c t
settled base a b p NotStarted t s = (tt, inl refl)
settled base a b p (Early Memory) t s = (tt, inl refl)
settled base a b p (Early Numbers) t s = (tt, inl refl)
settled base a b p (Late Memory) t s = (tt, inl refl)
settled base a b p (Late Numbers) t s = (tt, inl refl)
settled base a b p (Dropped r) t s = (tt, inl refl)
settled base a b p (Wrote r g st name number) t s = (tt, inl refl)
settled base a b p (Patched r ops st number) t s = (tt, inl refl)
settled base a b p (Erased st number) t s = (tt, inl refl)
settled base a b p (Looked st number) t s = (tt, inl refl)
settled base a b p (Missing st number) t s = (tt, inl refl)
settled base a b p (Streaming out due true) t s = (tt, inl refl)
settled base a b p (Cut out) t s = (tt, inl refl)
settled base a b p (Mute c) t s = (tt, go (settled base a b p c s.0.0 s.0.1).1) where
  go : Rests p c s.0.0 → Rests p (Mute c) t
  go (inl e) = inl e
  go (inr e) = inr (e.0, ap (λ (u : Said). u.1) s.1)
settled base a b p (Misanswered c) t s = (tt, inr (tt, ap (λ (u : Said). u.1) s))
settled base a b p c t s = absurd s

-- moves leave the seat idle, or end the connection by an answer that no store gives
abbrev pub Leaves : List Move → Said → Type 0
Leaves ms t = (phase_in phase.Idle (deeds_of ms) ≡ phase.Idle) ⊎ (((seat : ℕ) → AreOfKind seat (deeds_of ms) → HasMisfit (deeds_of ms)) × (t.1 ≡ false))

-- an entry's moves ask what its request asks
pub record IsSettled (base : List ℕ) (r : Request) (ms : List Move) (t : Said) : Type 0 where
  pub points : RequestPoints base r (asked_in phase.Idle (deeds_of ms))
  pub rests : Leaves ms t

never : (a : Asked) (seat : ℕ) (ms : List Move) → IsBroken (progress a NotStarted ms) → AreOfKind seat (deeds_of ms) → HasMisfit (deeds_of ms)
never a seat ms b k = go (progress_misfit a seat NotStarted ms k b) where
  go : IsBroken NotStarted ⊎ HasMisfit (deeds_of ms) → HasMisfit (deeds_of ms)
  go (inl p) = absurd p
  go (inr p) = p

ask_rests : (s : Server) (a : Asked) (b : BodyState) (ms : List Move) (t : Said) → AnswersAsk s a b ms t → Leaves ms t
ask_rests s a b ms t g = go (settled s.base a b (plan_of a) (progress a NotStarted ms) g.1.0 g.1.1) where
  goes : IsGreeted a (progress a NotStarted ms) g.1.0 t → t.1 ≡ g.1.0.1
  goes (inl z) = ap (λ (u : Said). u.1) z
  goes (inr z) = ap (λ (u : Said). u.1) z.1

  rest : IsRight (progress a NotStarted ms) → Rests (plan_of a) (progress a NotStarted ms) g.1.0 → Leaves ms t
  rest h (inl e) = inl ((progress_follows a s.piece NotStarted ms g.0.0 h).0 ∙ e)
  rest h (inr e) = inr (λ seat o. never a seat ms e.0 o, goes g.1.2 ∙ e.1)

  go : IsRight (progress a NotStarted ms) × Rests (plan_of a) (progress a NotStarted ms) g.1.0 → Leaves ms t
  go k = rest k.0 k.1

ask_points : (s : Server) (a : Asked) (b : BodyState) (ms : List Move) (t : Said) → AnswersAsk s a b ms t → OwnPoints s.base a b (plan_of a) (asked_in phase.Idle (deeds_of ms))
ask_points s a b ms t g = proper_points s a b ms g.0 (settled s.base a b (plan_of a) (progress a NotStarted ms) g.1.0 g.1.1).0

pub entry : (s : Server) (ended : Bool) (r : Request) (ms : List Move) (t : Said) → Answered s ended r ms t → IsSettled s.base r ms t
entry s ended (Denied d) [] t g = record { points = tt; rests = inl refl }
entry s ended (Denied d) (Short ∷ []) t g = record { points = tt; rests = inl refl }
entry s ended (Denied d) ms t g = absurd g
entry s ended (Asks a body) ms t g = record { points = whole_points s.base a body (asked_in phase.Idle (deeds_of ms)) (ask_points s a (Whole body) ms t g); rests = ask_rests s a (Whole body) ms t g }
entry s ended (Breaks a front st) ms t g = record { points = faulty_points s.base a front st (asked_in phase.Idle (deeds_of ms)) (ask_points s a (Faulty front st) ms t g); rests = ask_rests s a (Faulty front st) ms t g }
entry s ended (Waits a front) ms t g = record { points = open_points s.base a front ended (asked_in phase.Idle (deeds_of ms)) (ask_points s a (Unended front ended) ms t g); rests = ask_rests s a (Unended front ended) ms t g }

-- a log

goes_idle : (ms : List Move) (t : Said) → Leaves ms t → t.1 ≡ true → phase_in phase.Idle (deeds_of ms) ≡ phase.Idle
goes_idle ms t (inl p) z = p
goes_idle ms t (inr p) z = absurd (differ (sym z ∙ p.1))
  where
    differ : true ≡ false → ⊥
    differ z = cc

-- points of requests that come later
later_points : (base : List ℕ) (r : Request) (rs : List Request) (qs : List Point) → ArePointsOf base rs qs → ArePointsOf base (r ∷ rs) qs
later_points base r rs [] k = tt
later_points base r rs (q ∷ qs) k = inr k

-- and of one before them
add_points : (base : List ℕ) (r : Request) (rs : List Request) (own qs : List Point) → RequestPoints base r own → ArePointsOf base rs qs → ArePointsOf base (r ∷ rs) (own ++ qs)
add_points base r rs [] qs o k = later_points base r rs qs k
add_points base r rs (q ∷ []) qs o k = inl (o, k)
add_points base r rs (q ∷ (u ∷ us)) qs o k = absurd o

only_points : (base : List ℕ) (r : Request) (rs : List Request) (own : List Point) → RequestPoints base r own → ArePointsOf base (r ∷ rs) own
only_points base r rs own o = subst (λ (qs : List Point). ArePointsOf base (r ∷ rs) qs) (append-nil own) (add_points base r rs own [] o tt)

hand_points : (s : Server) (ended : Bool) (rs : List Request) (now : List Move) (t : List ℕ) → InHand s ended rs now t → ArePointsOf s.base rs (asked_in phase.Idle (deeds_of now))
hand_points s ended [] now t i = subst (λ (ms : List Move). ArePointsOf s.base [] (asked_in phase.Idle (deeds_of ms))) (sym i.0) tt
hand_points s ended (Denied d ∷ rs) now t i = subst (λ (ms : List Move). ArePointsOf s.base (Denied d ∷ rs) (asked_in phase.Idle (deeds_of ms))) (sym i.0) tt
hand_points s ended (Asks a body ∷ rs) now t i = only_points s.base (Asks a body) rs _ (whole_points s.base a body (asked_in phase.Idle (deeds_of now)) (proper_points s a (Whole body) now i.0 i.1))
hand_points s ended (Breaks a front st ∷ rs) now t i = only_points s.base (Breaks a front st) rs _ (faulty_points s.base a front st (asked_in phase.Idle (deeds_of now)) (proper_points s a (Faulty front st) now i.0 i.1))
hand_points s ended (Waits a front ∷ rs) now t i = only_points s.base (Waits a front) rs _ (open_points s.base a front ended (asked_in phase.Idle (deeds_of now)) (proper_points s a (Unended front ended) now i.0 i.1))

log_points : (s : Server) (ended : Bool) (log : Log) (rs rest : List Request) (now : List Move) (t : List ℕ) → AnswersAll s ended log rs rest → InHand s ended rest now t → ArePointsOf s.base rs (asked_in phase.Idle (deeds log ++ deeds_of now))
log_points s ended [] rs rest now t g i = hand_points s ended rs now t (subst (λ (z : List Request). InHand s ended z now t) g i)
log_points s ended (e ∷ es) [] rest now t g i = absurd g
log_points s ended (e ∷ es) (r ∷ rs) rest now t g i = go e.goes (goes_idle e.moves (e.text, e.goes) own.rests) g.1 (λ h. log_points s ended es rs rest now t h i)
  where
    own : IsSettled s.base r e.moves (e.text, e.goes)
    own = entry s ended r e.moves (e.text, e.goes) g.0

    here : List Point
    here = asked_in phase.Idle (deeds_of e.moves)

    joined : (p : SeatPhase) (qs : List Point) → phase_in phase.Idle (deeds_of e.moves) ≡ p → asked_in p (deeds es ++ deeds_of now) ≡ qs
        → asked_in phase.Idle ((deeds_of e.moves ++ deeds es) ++ deeds_of now) ≡ here ++ qs
    joined p qs k q =
        ap (asked_in phase.Idle) (append_assoc (deeds_of e.moves) (deeds es) (deeds_of now)) ∙ operations-append phase.Idle (deeds_of e.moves) (deeds es ++ deeds_of now)
        ∙ ap (λ z. here ++ asked_in z (deeds es ++ deeds_of now)) k ∙ ap (λ z. here ++ z) q

    nothing : (es : Log) (rest : List Request) → AnswersAll s ended es [] rest → InHand s ended rest now t → deeds es ++ deeds_of now ≡ []
    nothing [] rest g i = ap deeds_of ((subst (λ (z : List Request). InHand s ended z now t) g i).0)
    nothing (f ∷ fs) rest g i = absurd g

    go : (v : Bool) → (v ≡ true → phase_in phase.Idle (deeds_of e.moves) ≡ phase.Idle) → AnswersAll s ended es (cond v rs []) rest → (AnswersAll s ended es rs rest → ArePointsOf s.base rs (asked_in phase.Idle (deeds es ++ deeds_of now)))
        → ArePointsOf s.base (r ∷ rs) (asked_in phase.Idle ((deeds_of e.moves ++ deeds es) ++ deeds_of now))
    go true f h again = subst (λ (qs : List Point). ArePointsOf s.base (r ∷ rs) qs) (sym (joined phase.Idle _ (f refl) refl)) (add_points s.base r rs here _ own.points (again h))
    go false f h again = subst (λ (qs : List Point). ArePointsOf s.base (r ∷ rs) qs) (sym (joined _ [] refl (ap (asked_in (phase_in phase.Idle (deeds_of e.moves))) (nothing es rest h i)) ∙ append-nil here)) (only_points s.base r rs here own.points)

-- what is asked in a conversation is asked by its requests
pub talk_points : (s : Server) (ended : Bool) (x : List ℕ) (h : Deeds) (said : List ℕ) (rest : List Request) → Talk s ended x h said rest → ArePointsOf s.base (requests s.base x) (asked_in phase.Idle h)
talk_points s ended x h said rest k =
    subst (λ (d : Deeds). ArePointsOf s.base (requests s.base x) (asked_in phase.Idle d)) (sym k.done)
    (log_points s ended k.log (requests s.base x) rest k.now k.text k.answers k.hand)

-- after entries that are answered the seat is idle, or an answer did not fit
pub log_idle : (s : Server) (ended : Bool) (seat : ℕ) (log : Log) (rs rest : List Request) → AreOfKind seat (deeds log) → AnswersAll s ended log rs rest → IsIdle (deeds log)
log_idle s ended seat [] rs rest o g = inl refl
log_idle s ended seat (e ∷ es) [] rest o g = absurd g
log_idle s ended seat (e ∷ es) (r ∷ rs) rest o g = go (entry s ended r e.moves (e.text, e.goes) g.0).rests (log_idle s ended seat es (cond e.goes rs []) rest (kinds-rest seat (deeds_of e.moves) (deeds es) o) g.1)
  where
    go : Leaves e.moves (e.text, e.goes) → IsIdle (deeds es) → IsIdle (deeds_of e.moves ++ deeds es)
    go (inl p) (inl q) = inl (phase-append phase.Idle (deeds_of e.moves) (deeds es) ∙ ap (λ z. phase_in z (deeds es)) p ∙ q)
    go (inl p) (inr q) = inr (misfit-append (deeds_of e.moves) (deeds es) (inr q))
    go (inr p) q = inr (misfit-append (deeds_of e.moves) (deeds es) (inl (p.0 seat (kinds-front seat (deeds_of e.moves) (deeds es) o))))

-- where no request is left, the seat is idle, or an answer did not fit
pub rests_idle : (s : Server) (ended : Bool) (seat : ℕ) (x : List ℕ) (h : Deeds) (said : List ℕ) → AreOfKind seat h → Talk s ended x h said [] → IsIdle h
rests_idle s ended seat x h said o k = subst IsIdle (sym all) (log_idle s ended seat k.log (requests s.base x) [] (subst (λ (d : Deeds). AreOfKind seat d) all o) k.answers)
  where
    all : h ≡ deeds k.log
    all = k.done ∙ ap (λ ms. deeds k.log ++ deeds_of ms) k.hand.0 ∙ append-nil (deeds k.log)

-- The seat is idle after a log and moves whose progress has left it, or an answer did not fit.
pub talk_idle : (s : Server) (ended : Bool) (seat : ℕ) (log : Log) (rs rest : List Request) (a : Asked) (now : List Move) → AreOfKind seat (deeds log ++ deeds_of now) → AnswersAll s ended log rs rest
    → AllSuit s.piece (plan_of a) now → IsRight (progress a NotStarted now) → (phase_at (plan_of a) (progress a NotStarted now) ≡ phase.Idle) ⊎ IsBroken (progress a NotStarted now) → IsIdle (deeds log ++ deeds_of now)
talk_idle s ended seat log rs rest a now o g u h i = go (log_idle s ended seat log rs rest (kinds-front seat (deeds log) (deeds_of now) o) g) i
  where
    go : IsIdle (deeds log) → (phase_at (plan_of a) (progress a NotStarted now) ≡ phase.Idle) ⊎ IsBroken (progress a NotStarted now) → IsIdle (deeds log ++ deeds_of now)
    go (inr q) i = inr (misfit-append (deeds log) (deeds_of now) (inl q))
    go (inl q) (inr b) = inr (misfit-append (deeds log) (deeds_of now) (inr (never a seat now b (kinds-rest seat (deeds log) (deeds_of now) o))))
    go (inl q) (inl p) = inl (phase-append phase.Idle (deeds log) (deeds_of now) ∙ ap (λ z. phase_in z (deeds_of now)) q ∙ (progress_follows a s.piece NotStarted now u h).0 ∙ p)
