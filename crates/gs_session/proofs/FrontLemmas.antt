-- A connection is given up: what was done and said was a front of a conversation, and the seat is idle.
use Rattle.std.proofs.Common.{◌≡◌, ◌⊎◌, inl, inr, ◌+◌, ◌≤◌, arith, ℕ, Bool, true, false, List, [], ◌∷◌, ◌++◌, length, refl, sym, ap, subst, ◌∙◌, append-nil, append_assoc}
use Rattle.std.proofs.lemmas.List.Concat.{flat_map-append}
use Rattle.gs_transfer.specs.Cuts.{BodyCut, End}
use Rattle.gs_transfer.specs.Cuts as cut
use Rattle.gs_event.specs.declared.events.Event.{Event}
use Rattle.gs_event.specs.declared.events.Action.TheVariants.{Cancel}
use Rattle.gs_event.specs.declared.answers.Answer.{Answer}
use Rattle.gs_event.specs.declared.answers.Answer.TheVariants.{Cancelled}
use Rattle.gs_event.specs.Phases as phase
use Rattle.gs_verdict.specs.declared.verdicts.Asked.{Asked}
use Rattle.gs_stream.specs.Requests.{Request, Denied, Asks, Breaks, Waits, by_body, by_end, requests}
use Rattle.gs_talk.specs.Plans.{plan_of}
use Rattle.gs_talk.specs.Progress.{Move, Did, Lack, Progress, NotStarted, UploadOpen, PatchOpen, Lacking, Late, Dropped, Streaming, CancelDue, Cut as CutShort, Left}
use Rattle.gs_talk.specs.Moves.{progress_after, progress, at_cancel}
use Rattle.gs_talk.specs.Following.{phase_at}
use Rattle.gs_talk.specs.Seats.{Deeds}
use Rattle.gs_talk.specs.Replies.{BodyState, Whole, Faulty, Unended, IsOwn, said_so_far, data_of}
use Rattle.gs_talk.specs.Logs.{Server, Log, AllSuit, AnswersAll, AskInHand, InHand, IsRight, deed_of, deeds_of, deeds, texts, stages_in}
use Rattle.gs_talk.specs.Closings.{SaysFront}
use Rattle.gs_talk.specs.Laws.{AreOfKind, IsIdle}
use Rattle.gs_talk.proofs.KindLemmas.{IsBroken}
use Rattle.gs_talk.proofs.LogLemmas.{log_idle, talk_idle}
use Rattle.gs_session.specs.declared.phases.Phase.{Phase}
use Rattle.gs_session.specs.declared.phases.Phase.TheVariants.{Between, Serving, Over}
use Rattle.gs_session.specs.declared.phases.Work.{Work}
use Rattle.gs_session.specs.declared.phases.Work.TheVariants as work
use Rattle.gs_session.specs.Trails.{Trail, coming, WorkStands, IsWholeBody}
use Rattle.gs_session.specs.Leads.{LeadsTo, MayCome}
use Rattle.gs_session.specs.Steps.{TakesAction, server_of}
use Rattle.gs_session.specs.Turns.{Quits, has_opened}
use Rattle.gs_session.specs.declared.sessions.Session.{Session}
use Rattle.gs_session.proofs.MoveLemmas.{progress-append, suit-append, stages-append}
use Rattle.gs_session.proofs.RestLemmas.{answered_now}

-- what was written is a front of what was to be said, and the seat is idle
abbrev pub Fronts : Server → Bool → ℕ → List ℕ → Deeds → List ℕ → Type 0
Fronts s e seat x h w = SaysFront s e x h w × (AreOfKind seat h → IsIdle h)

-- the log answers the requests, up to those that are still to be answered, where more bytes had come
answered_with : {s : Server} {e : Bool} {p : Phase} {b x : List ℕ} {h : Deeds} {said : List ℕ} (l : LeadsTo s e p b x h said) (y : List ℕ) → MayCome e y
    → AnswersAll s e l.log (requests s.base (x ++ y)) (coming s.base p l.trail (b ++ y))
answered_with {s} {e} {p} {b} {x} l y may =
    subst (λ (g : Log). AnswersAll s e g (requests s.base (x ++ y)) (coming s.base p l.trail (b ++ y))) (append-nil l.log) (l.same y may [] (coming s.base p l.trail (b ++ y)) refl)

-- between two requests, and after the last

-- of a request for which nothing was done, the greeting may be due
begins : (s : Server) (a : Asked) (o : BodyState) → AskInHand s a o [] (said_so_far a NotStarted)
begins s a o = ((tt, tt, omega arith), tt, refl)

hand_none : (s : Server) (e : Bool) (rs : List Request) → (t : List ℕ) × InHand s e rs [] t
hand_none s e [] = ([], (refl, refl))
hand_none s e (Denied d ∷ rs) = ([], (refl, refl))
hand_none s e (Asks a body ∷ rs) = (said_so_far a NotStarted, begins s a (Whole body))
hand_none s e (Breaks a front st ∷ rs) = (said_so_far a NotStarted, begins s a (Faulty front st))
hand_none s e (Waits a front ∷ rs) = (said_so_far a NotStarted, begins s a (Unended front e))

nothing_done : {s : Server} {e : Bool} {p : Phase} {b x : List ℕ} {h : Deeds} {said : List ℕ} (l : LeadsTo s e p b x h said) → l.now ≡ [] → h ++ [] ≡ deeds l.log
nothing_done {s} {e} {p} {b} {x} {h} l f = append-nil h ∙ l.done ∙ ap (λ (ms : List Move). deeds l.log ++ deeds_of ms) f ∙ append-nil (deeds l.log)

pub none_front : {s : Server} {e : Bool} (p : Phase) (b x : List ℕ) (h : Deeds) (w due : List ℕ) (l : LeadsTo s e p b x h (w ++ due)) → l.now ≡ [] → l.text ≡ [] → (y : List ℕ) → MayCome e y
    → SaysFront s e (x ++ y) (h ++ []) w
none_front {s} {e} p b x h w due l f g y may =
    let rest : List Request = coming s.base p l.trail (b ++ y) in
    let k = hand_none s e rest in (
      rest,
      due ++ k.0,
      record {
        log = l.log;
        now = [];
        text = k.0;
        answers = answered_with l y may;
        hand = k.1;
        done = nothing_done l f ∙ sym (append-nil (deeds l.log));
        written = sym (append_assoc w due k.0) ∙ ap (λ z. z ++ k.0) (l.written ∙ ap (λ z. texts l.log ++ z) g ∙ append-nil (texts l.log));
      },
    )

none_idle : {s : Server} {e : Bool} (seat : ℕ) (p : Phase) (b x : List ℕ) (h : Deeds) (said : List ℕ) (l : LeadsTo s e p b x h said) → l.now ≡ [] → AreOfKind seat (h ++ []) → IsIdle (h ++ [])
none_idle {s} {e} seat p b x h said l f o =
    subst IsIdle (sym (nothing_done l f)) (log_idle s e seat l.log (requests s.base x) (coming s.base p l.trail b) (subst (λ (d : Deeds). AreOfKind seat d) (nothing_done l f) o) (answered_now l))

-- while a request is served

-- what is its own whatever its body is, or with this whole body
abbrev pub Owned : List ℕ → Asked → Trail → Progress → Type 0
Owned base a t c = ((o : BodyState) → IsOwn base a o c) ⊎ ((body : List ℕ) × IsWholeBody t body × IsOwn base a (Whole body) c)

-- From the one progress to the other nothing more is said, and after it the seat is idle, or the door gave an answer that it should not.
pub record GivesUp (base : List ℕ) (a : Asked) (t : Trail) (c d : Progress) : Type 0 where
  pub right : IsRight d
  pub said : said_so_far a c ≡ said_so_far a d
  pub own : Owned base a t d
  pub idle : (phase_at (plan_of a) d ≡ phase.Idle) ⊎ IsBroken d

more_done : {s : Server} {e : Bool} {p : Phase} {b x : List ℕ} {h : Deeds} {said : List ℕ} (l : LeadsTo s e p b x h said) (ms : List Move) → h ++ deeds_of ms ≡ deeds l.log ++ deeds_of (l.now ++ ms)
more_done l ms =
    ap (λ z. z ++ deeds_of ms) l.done ∙ append_assoc (deeds l.log) (deeds_of l.now) (deeds_of ms) ∙ ap (λ z. deeds l.log ++ z) (sym (flat_map-append deed_of l.now ms))

goes_on : {s : Server} {e : Bool} {a : Asked} {k : Work} {b x : List ℕ} {h : Deeds} {said : List ℕ} (l : LeadsTo s e (Serving a k) b x h said) (ms : List Move) → progress a NotStarted (l.now ++ ms) ≡ progress a l.trail.progress ms
goes_on {a = a} l ms = progress-append a NotStarted l.now ms ∙ ap (λ (c : Progress). progress a c ms) l.keeps.came

-- what was done for a request in hand, with some more moves, after which nothing more was said
pub serving_front : {s : Server} {e : Bool} (a : Asked) (k : Work) (b x : List ℕ) (h : Deeds) (w due : List ℕ) (l : LeadsTo s e (Serving a k) b x h (w ++ due)) (ms : List Move)
    → AllSuit s.piece (plan_of a) ms → stages_in ms ≡ 0 → IsRight (progress a l.trail.progress ms) → said_so_far a l.trail.progress ≡ said_so_far a (progress a l.trail.progress ms)
    → Owned s.base a l.trail (progress a l.trail.progress ms) → (y : List ℕ) → MayCome e y → SaysFront s e (x ++ y) (h ++ deeds_of ms) w
serving_front {s} {e} a k b x h w due l ms suit few right said own y may = (
  coming s.base (Serving a k) l.trail (b ++ y),
  due,
  record {
    log = l.log;
    now = l.now ++ ms;
    text = l.text;
    answers = answered_with l y may;
    hand = hand own;
    done = more_done l ms;
    written = l.written;
  },
)
  where
    at_now : (o : BodyState) → IsOwn s.base a o (progress a l.trail.progress ms) → stages_in l.now ≤ length (data_of o) + 1 → AskInHand s a o (l.now ++ ms) l.text
    at_now o q m = (
      (suit-append s.piece (plan_of a) l.now ms l.keeps.suits suit, subst (λ (c : Progress). IsOwn s.base a o c) (sym (goes_on l ms)) q, omega (arith, m, stages-append l.now ms, few)),
      subst IsRight (sym (goes_on l ms)) right,
      l.keeps.said ∙ said ∙ ap (λ (c : Progress). said_so_far a c) (sym (goes_on l ms)),
    )

    at_end : (d : List ℕ) (n : End) → stages_in l.now ≤ length d + 1 → ((o : BodyState) → IsOwn s.base a o (progress a l.trail.progress ms)) → InHand s e (by_end (requests s.base) a d n) (l.now ++ ms) l.text
    at_end d cut.Open m q = at_now (Unended d e) (q (Unended d e)) m
    at_end d (cut.Faulty st) m q = at_now (Faulty d st) (q (Faulty d st)) m
    at_end d (cut.Whole z) m q = at_now (Whole d) (q (Whole d)) m

    hand : Owned s.base a l.trail (progress a l.trail.progress ms) → InHand s e (by_body (requests s.base) a (l.trail.cut (b ++ y))) (l.now ++ ms) l.text
    hand (inl q) = at_end (l.trail.cut (b ++ y)).bytes (l.trail.cut (b ++ y)).end (l.keeps.few (b ++ y)) q
    hand (inr q) =
        subst (λ (v : BodyCut). InHand s e (by_body (requests s.base) a v) (l.now ++ ms) l.text) (sym (q.1 (b ++ y)))
        (at_now (Whole q.0) q.2 (omega (arith, l.keeps.few (b ++ y), ap (λ (v : BodyCut). length v.bytes) (q.1 (b ++ y)))))

-- the same, where these moves give it up
serving : {s : Server} {e : Bool} (seat : ℕ) (a : Asked) (k : Work) (b x : List ℕ) (h : Deeds) (w due : List ℕ) (l : LeadsTo s e (Serving a k) b x h (w ++ due)) (ms : List Move)
    → AllSuit s.piece (plan_of a) ms → stages_in ms ≡ 0 → GivesUp s.base a l.trail l.trail.progress (progress a l.trail.progress ms) → (y : List ℕ) → MayCome e y
    → Fronts s e seat (x ++ y) (h ++ deeds_of ms) w
serving {s} {e} seat a k b x h w due l ms suit few g y may = (
  serving_front a k b x h w due l ms suit few g.right g.said g.own y may,
  λ o. subst IsIdle (sym (more_done l ms))
      (talk_idle s e seat l.log (requests s.base x) (coming s.base (Serving a k) l.trail b) a (l.now ++ ms) (subst (λ (d : Deeds). AreOfKind seat d) (more_done l ms) o) (answered_now l)
      (suit-append s.piece (plan_of a) l.now ms l.keeps.suits suit) (subst IsRight (sym (goes_on l ms)) g.right)
      (subst (λ (c : Progress). (phase_at (plan_of a) c ≡ phase.Idle) ⊎ IsBroken c) (sym (goes_on l ms)) g.idle)),
)

-- nothing was opened
fresh : (base : List ℕ) (a : Asked) (t : Trail) → t.progress ≡ NotStarted → GivesUp base a t t.progress t.progress
fresh base a t f = subst (λ (c : Progress). GivesUp base a t c c) (sym f) (record { right = tt; said = refl; own = inl (λ o. tt); idle = inl refl })

unopened : (base : List ℕ) (a : Asked) (k : Work) (t : Trail) (stages : ℕ) → has_opened k ≡ false → WorkStands base a k t stages → GivesUp base a t t.progress t.progress
unopened base a work.Opening t stages f j = fresh base a t j.0
unopened base a (work.Skipping transfer) t stages f j = fresh base a t j.1
unopened base a (work.Uploading reading transfer) t stages f j = cc
unopened base a work.Committing t stages f j = cc
unopened base a (work.Patching r body transfer) t stages f j = cc
unopened base a (work.Failing want) t stages f j = cc
unopened base a work.Sending t stages f j = cc
unopened base a work.Cutting t stages f j = cc

-- what was opened is cancelled

writing_cancelled : (base : List ℕ) (a : Asked) (t : Trail) (r : ℕ) (g : List _) (answer : Answer) → GivesUp base a t (UploadOpen r g) (at_cancel (UploadOpen r g) (Dropped r) answer)
writing_cancelled base a t r g Cancelled = record { right = tt; said = refl; own = inl (λ o. tt); idle = inl refl }
writing_cancelled base a t r g answer = record { right = tt; said = refl; own = inl (λ o. tt); idle = inr tt }

patching_cancelled : (base : List ℕ) (a : Asked) (t : Trail) (r : ℕ) (answer : Answer) → GivesUp base a t (PatchOpen r) (at_cancel (PatchOpen r) (Dropped r) answer)
patching_cancelled base a t r Cancelled = record { right = tt; said = refl; own = inl (λ o. tt); idle = inl refl }
patching_cancelled base a t r answer = record { right = tt; said = refl; own = inl (λ o. tt); idle = inr tt }

lacking_cancelled : (base : List ℕ) (a : Asked) (t : Trail) (c : Progress) (n : Lack) (answer : Answer) → GivesUp base a t (Lacking c n) (at_cancel (Lacking c n) (Late n) answer)
lacking_cancelled base a t c n Cancelled = record { right = tt; said = refl; own = inl (λ o. tt); idle = inl refl }
lacking_cancelled base a t c n answer = record { right = tt; said = refl; own = inl (λ o. tt); idle = inr tt }

held_cancelled : (base : List ℕ) (a : Asked) (t : Trail) (out due body : List ℕ) (answer : Answer) → IsWholeBody t body
    → GivesUp base a t (Streaming out due false) (at_cancel (Streaming out due false) (Left (out ++ due)) answer)
held_cancelled base a t out due body Cancelled n = record { right = tt; said = refl; own = inr (body, n, tt); idle = inl refl }
held_cancelled base a t out due body answer n = record { right = tt; said = refl; own = inr (body, n, tt); idle = inr tt }

cutting_cancelled : (base : List ℕ) (a : Asked) (t : Trail) (out body : List ℕ) (answer : Answer) → IsWholeBody t body → GivesUp base a t (CancelDue out) (at_cancel (CancelDue out) (CutShort out) answer)
cutting_cancelled base a t out body Cancelled n = record { right = tt; said = refl; own = inr (body, n, tt); idle = inl refl }
cutting_cancelled base a t out body answer n = record { right = tt; said = refl; own = inr (body, n, tt); idle = inr tt }

at_progress : (base : List ℕ) (a : Asked) (t : Trail) (answer : Answer) (c : Progress) → t.progress ≡ c → GivesUp base a t c (progress_after a c (Did Cancel answer)) → GivesUp base a t t.progress (progress_after a t.progress (Did Cancel answer))
at_progress base a t answer c f g = subst (λ (v : Progress). GivesUp base a t v (progress_after a v (Did Cancel answer))) (sym f) g

cancelled : (base : List ℕ) (a : Asked) (k : Work) (t : Trail) (stages : ℕ) (answer : Answer) → has_opened k ≡ true → WorkStands base a k t stages
    → GivesUp base a t t.progress (progress_after a t.progress (Did Cancel answer))
cancelled base a (work.Uploading reading transfer) t stages answer f j = at_progress base a t answer _ j.stands (writing_cancelled base a t j.request j.staged answer)
cancelled base a work.Committing t stages answer f j = at_progress base a t answer _ j.3 (writing_cancelled base a t j.0 j.2 answer)
cancelled base a (work.Patching r body transfer) t stages answer f j = at_progress base a t answer _ j.0 (patching_cancelled base a t r answer)
cancelled base a (work.Failing want) t stages answer f j = at_progress base a t answer _ j.1 (lacking_cancelled base a t j.0 _ answer)
cancelled base a work.Sending t stages answer f j = at_progress base a t answer _ j.3 (held_cancelled base a t j.0 j.1 j.2 answer j.4)
cancelled base a work.Cutting t stages answer f j = at_progress base a t answer _ j.2 (cutting_cancelled base a t j.0 j.1 answer j.3)
cancelled base a work.Opening t stages answer f j = cc
cancelled base a (work.Skipping transfer) t stages answer f j = cc

-- A session that serves no request has nothing to cancel.
pub quits_unserving : {D : Type 0} (gives : D → Event → Answer → D → Type 0) (s : Session) (old new : D) → ((a : Asked) (k : Work) → s.phase ≡ Serving a k → ⊥) → new ≡ old → Quits gives s old new
quits_unserving gives s old new n f = ([], inl refl, f, λ x h w y l may. at_phase s.phase n x h w y l may) where
  at_phase : (p : Phase) → ((a : Asked) (k : Work) → p ≡ Serving a k → ⊥) → (x : List ℕ) (h : Deeds) (w y : List ℕ) → LeadsTo (server_of s.setup) s.ended p s.input x h (w ++ s.due.items) → MayCome s.ended y
      → Fronts (server_of s.setup) s.ended s.setup.seat (x ++ y) (h ++ []) w
  at_phase Between n x h w y l may = (none_front Between s.input x h w s.due.items l l.keeps.0 l.keeps.1 y may, none_idle s.setup.seat Between s.input x h (w ++ s.due.items) l l.keeps.0)
  at_phase Over n x h w y l may = (none_front Over s.input x h w s.due.items l l.keeps.0 l.keeps.1 y may, none_idle s.setup.seat Over s.input x h (w ++ s.due.items) l l.keeps.0)
  at_phase (Serving a k) n x h w y l may = absurd (n a k refl)

-- Where nothing was opened, there is nothing to be cancelled.
pub quits_unopened : {D : Type 0} (gives : D → Event → Answer → D → Type 0) (s : Session) (old new : D) (a : Asked) (k : Work) → s.phase ≡ Serving a k → has_opened k ≡ false → new ≡ old → Quits gives s old new
quits_unopened gives s old new a k at f g = (
  [],
  inl refl,
  g,
  λ x h w y l may.
      let m = subst (λ (p : Phase). LeadsTo (server_of s.setup) s.ended p s.input x h (w ++ s.due.items)) at l in
      serving s.setup.seat a k s.input x h w s.due.items m [] tt refl (unopened s.setup.site a k m.trail (stages_in m.now) f m.keeps.stands) y may,
)

-- What was opened is cancelled.
pub quits_cancelled : {D : Type 0} (gives : D → Event → Answer → D → Type 0) (s : Session) (old mid new : D) (a : Asked) (k : Work) (answer : Answer) → s.phase ≡ Serving a k → has_opened k ≡ true
    → TakesAction gives s.setup.seat old Cancel answer mid → new ≡ mid → Quits gives s old new
quits_cancelled gives s old mid new a k answer at f g i = (
  (Cancel, answer) ∷ [],
  inr (answer, refl),
  (mid, g, i),
  λ x h w y l may.
      let m = subst (λ (p : Phase). LeadsTo (server_of s.setup) s.ended p s.input x h (w ++ s.due.items)) at l in
      serving s.setup.seat a k s.input x h w s.due.items m (Did Cancel answer ∷ []) (tt, tt) refl (cancelled s.setup.site a k m.trail (stages_in m.now) answer f m.keeps.stands) y may,
)
