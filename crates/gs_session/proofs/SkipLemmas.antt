-- The steps of a request whose body is dropped.
use Rattle.std.proofs.Common.{◌≡◌, ◌⊎◌, inl, inr, ◌+◌, ◌*◌, ◌≤◌, ◌<◌, arith, ℕ, zero, suc, Bool, true, false, List, [], ◌∷◌, ◌++◌, length, take, drop, refl, sym, ap, subst, ◌∙◌, append-nil, length-append, length-drop, Option, None}
use Rattle.gs_event.specs.declared.events.Event.{Event}
use Rattle.gs_event.specs.declared.events.Action.TheVariants as act
use Rattle.gs_event.specs.declared.events.Scope.{Scope}
use Rattle.gs_event.specs.declared.answers.Answer.{Answer}
use Rattle.gs_term.specs.declared.names.Target.{Target}
use Rattle.gs_transfer.specs.Cuts.{BodyCut, End, ends, with_data, cut_from}
use Rattle.gs_transfer.specs.Cuts as cut
use Rattle.gs_transfer.specs.States.{TransferState, Left, SizeLine, Data, DataEnd, DataEndCr, Trailer, Over}
use Rattle.gs_transfer.specs.Places.{state_at_place}
use Rattle.gs_transfer.specs.Views.{cut_of, Parts}
use Rattle.gs_transfer.specs.declared.transfers.Part.{Part}
use Rattle.gs_transfer.specs.declared.transfers.Part.TheVariants as part
use Rattle.gs_transfer.specs.declared.places.Transfer.{Transfer}
use Rattle.gs_verdict.specs.declared.verdicts.Asked.{Asked}
use Rattle.gs_reply.specs.Notices.{Nothing}
use Rattle.gs_reply.specs.Replies.{reply_text}
use Rattle.gs_stream.specs.Requests.{Request, by_body, by_end, requests}
use Rattle.gs_talk.specs.Plans.{Plan, Uploads, Patches, Deletes, Looks, Reads, NoPlan, plan_of}
use Rattle.gs_talk.specs.Progress.{Move, Short, Progress, NotStarted, Early, Memory, Mute}
use Rattle.gs_talk.specs.Moves.{first, progress_after, progress}
use Rattle.gs_talk.specs.Seats.{Deeds}
use Rattle.gs_talk.specs.Replies.{BodyState, Whole, Faulty, Unended, Said, IsOwn, Settles, said_so_far, greeting, data_of, plain, is_early}
use Rattle.gs_talk.specs.Logs.{Server, Log, AllSuit, AnswersAsk, AnswersAll, deeds_of, stages_in}
use Rattle.gs_session.specs.declared.phases.Phase.{Phase}
use Rattle.gs_session.specs.declared.phases.Phase.TheVariants.{Serving}
use Rattle.gs_session.specs.declared.phases.Phase.TheVariants as phase
use Rattle.gs_session.specs.declared.phases.Work.{Work}
use Rattle.gs_session.specs.declared.phases.Work.TheVariants.{Skipping}
use Rattle.gs_session.specs.declared.setups.Setup.{Setup}
use Rattle.gs_session.specs.declared.outcomes.Next.{Next}
use Rattle.gs_session.specs.declared.steps.Step.TheVariants.{Silent, Made, Wait}
use Rattle.gs_session.specs.Trails.{Trail, IsCutBy}
use Rattle.gs_session.specs.Leads.{LeadsTo}
use Rattle.gs_session.specs.Outcomes.{Says, Stops, Replies, AfterDelete, AfterLook, AfterPin}
use Rattle.gs_session.specs.Steps.{Does, DoesStep, GivesData, IsStill, effort, server_of}
use Rattle.gs_session.proofs.MoveLemmas.{silent, answered, answers_fault, ends_open, progress-append, suit-append, stages-append, none}
use Rattle.gs_session.proofs.ReplyLemmas.{to_next}
use Rattle.gs_session.proofs.ReadLemmas.{IsWholeAt, delete_leads, look_leads, pin_leads}
use Rattle.gs_session.proofs.UploadLemmas.{part_trail, seam}

-- refused memory before any event

-- without memory no plan begins
pub first_short : (a : Asked) (p : Plan) → first a p Short ≡ Early Memory
first_short a (Uploads k since) = refl
first_short a (Patches t since) = refl
first_short a (Deletes t since) = refl
first_short a (Looks t) = refl
first_short a (Reads t) = refl
first_short a NoPlan = refl

-- Memory was wanting after the greeting was said, before any event: the connection ends, whatever the body is.
pub ends_early : {s : Server} {e : Bool} (a : Asked) (k : Work) (ms : List Move) (c : Progress) (v b x : List ℕ) (h : Deeds) (said : List ℕ) (l : LeadsTo s e (Serving a k) b x h said)
    → l.trail.progress ≡ NotStarted → AllSuit s.piece (plan_of a) ms → progress a NotStarted ms ≡ c → is_early c ≡ true → stages_in ms ≡ 0 → ((o : BodyState) → IsOwn s.base a o c) → ((o : BodyState) → Settles s.base a o c (v, false))
    → LeadsTo s e phase.Over b x (h ++ deeds_of ms) (said ++ v)
ends_early {s} {e} a k ms c v b x h said l at suit came early no_stage own set =
    answered (Serving a k) phase.Over b b x h said l ms v false none (λ y i more rest w. go (l.trail.cut (b ++ y)) (l.keeps.few (b ++ y)) more rest w) (refl, refl) l.shut refl
  where
    is : progress a NotStarted (l.now ++ ms) ≡ c
    is = progress-append a NotStarted l.now ms ∙ ap (λ (c : Progress). progress a c ms) (l.keeps.came ∙ at) ∙ came

    told : ◌≡◌ {A = Said} (l.text ++ v, false) (greeting a NotStarted ++ v, false)
    told = ap (λ (z : List ℕ). (z ++ v, false)) (l.keeps.said ∙ ap (λ (c : Progress). said_so_far a c) at ∙ append-nil (greeting a NotStarted))

    by : (o : BodyState) → stages_in l.now ≤ length (data_of o) + 1 → AnswersAsk s a o (l.now ++ ms) (l.text ++ v, false)
    by o n = (
      (
        suit-append s.piece (plan_of a) l.now ms l.keeps.suits suit,
        subst (λ (c : Progress). IsOwn s.base a o c) (sym is) (own o),
        omega (arith, n, no_stage, stages-append l.now ms),
      ),
      (
        (v, false),
        subst (λ (c : Progress). Settles s.base a o c (v, false)) (sym is) (set o),
        inr (ap (λ (c : Progress). is_early c) is ∙ early, told),
      ),
    )

    at_end : (d : List ℕ) (n : End) → stages_in l.now ≤ length d + 1 → (more : Log) (rest : List Request) → AnswersAll s e more [] rest
        → AnswersAll s e ((record { moves = l.now ++ ms; text = l.text ++ v; goes = false }) ∷ more) (by_end (requests s.base) a d n) rest
    at_end d cut.Open m more rest w = (by (Unended d e) m, w)
    at_end d (cut.Faulty st) m more rest w = (by (Faulty d st) m, w)
    at_end d (cut.Whole z) m more rest w = (by (Whole d) m, w)

    go : (q : BodyCut) → stages_in l.now ≤ length q.bytes + 1 → (more : Log) (rest : List Request) → AnswersAll s e more [] rest
        → AnswersAll s e ((record { moves = l.now ++ ms; text = l.text ++ v; goes = false }) ∷ more) (by_body (requests s.base) a q) rest
    go q m more rest w = at_end q.bytes q.end m more rest w

-- without memory nothing is said, not even 503, and the connection ends
stops_early : {s : Server} {e : Bool} (a : Asked) (k : Work) (b x : List ℕ) (h : Deeds) (said : List ℕ) (l : LeadsTo s e (Serving a k) b x h said)
    → l.trail.progress ≡ NotStarted → (n : Next) → Stops n → LeadsTo s e n.phase b x h (said ++ n.said.items)
stops_early {s} {e} a k b x h said l at n y =
    to_next n phase.Over [] b x h said y
    (subst (λ (d : Deeds). LeadsTo s e phase.Over b x d (said ++ [])) (append-nil h)
    (ends_early a k (Short ∷ Short ∷ []) (Mute (Early Memory)) [] b x h said l at tt (ap (λ (c : Progress). progress_after a c Short) (first_short a (plan_of a))) refl refl (λ o. tt) (λ o. ((plain 503 true, refl), refl))))

-- Memory was wanting before any event: the reply is 503, or nothing, and the connection ends.
pub early_leads : {s : Server} {e : Bool} (a : Asked) (k : Work) (b x : List ℕ) (h : Deeds) (said : List ℕ) (l : LeadsTo s e (Serving a k) b x h said)
    → l.trail.progress ≡ NotStarted → (n : Next) → Replies n 503 true → LeadsTo s e n.phase b x h (said ++ n.said.items)
early_leads {s} {e} a k b x h said l at n (inl y) =
    to_next n phase.Over (reply_text 503 Nothing None true) b x h said y
    (subst (λ (d : Deeds). LeadsTo s e phase.Over b x d (said ++ reply_text 503 Nothing None true)) (append-nil h)
    (ends_early a k (Short ∷ []) (Early Memory) (reply_text 503 Nothing None true) b x h said l at tt (first_short a (plan_of a)) refl refl (λ o. tt) (λ o. refl)))
early_leads a k b x h said l at n (inr y) = stops_early a k b x h said l at n y

-- steps

-- what is over wants less than what is served
pub over_less : (n : Next) (a : Asked) (t : Transfer) (b : List ℕ) → n.phase ≡ phase.Over → effort n.phase b < effort (Serving a (Skipping t)) b
over_less n a t b f = subst (λ (p : Phase). effort p b < effort (Serving a (Skipping t)) b) (sym f) (omega arith)

-- a reply that closes ends the connection, and so does none
pub closed : (n : Next) (v : List ℕ) → Says n phase.Over v ⊎ Stops n → n.phase ≡ phase.Over
closed n v (inl y) = y.0
closed n v (inr y) = y.0

-- the body of a request that is dropped is whole
skip_whole : {s : Server} {e : Bool} (a : Asked) (t : Transfer) (b x : List ℕ) (h : Deeds) (said : List ℕ) (l : LeadsTo s e (Serving a (Skipping t)) b x h said)
    → ((y : List ℕ) → cut_of t (b ++ y) ≡ ends (cut.Whole (b ++ y))) → IsWholeAt l (l.keeps.stands.0 ++ [])
skip_whole a t b x h said l over y = l.keeps.stands.3 (b ++ y) ∙ ap (λ (c : BodyCut). with_data l.keeps.stands.0 c) (over y)

-- A graph is removed, once the body is over.
pub delete_steps : {D : Type 0} (gives : D → Event → Answer → D → Type 0) (setup : Setup) (e : Bool) (a : Asked) (t : Transfer) (u : Target) (since : Option ℕ) (b : List ℕ) (old new : D) (n : Next)
    → ((y : List ℕ) → cut_of t (b ++ y) ≡ ends (cut.Whole (b ++ y))) → plan_of a ≡ Deletes u since → Does gives setup.seat old (act.Delete u since) new (λ answer. AfterDelete a answer n)
    → DoesStep gives setup e (Serving a (Skipping t)) b old (Made n) b new
delete_steps gives setup e a t u since b old new n over is o =
    (act.Delete u since, o.0, o.1, λ x h said l. delete_leads a t u since o.0 b x h said (l.keeps.stands.0 ++ []) l is (skip_whole a t b x h said l over) n o.2)

-- A graph is looked at.
pub look_steps : {D : Type 0} (gives : D → Event → Answer → D → Type 0) (setup : Setup) (e : Bool) (a : Asked) (t : Transfer) (u : Scope) (b : List ℕ) (old new : D) (n : Next)
    → ((y : List ℕ) → cut_of t (b ++ y) ≡ ends (cut.Whole (b ++ y))) → plan_of a ≡ Looks u → Does gives setup.seat old (act.Head u) new (λ answer. AfterLook a answer n)
    → DoesStep gives setup e (Serving a (Skipping t)) b old (Made n) b new
look_steps gives setup e a t u b old new n over is o =
    (act.Head u, o.0, o.1, λ x h said l. look_leads a t u o.0 b x h said (l.keeps.stands.0 ++ []) l is (skip_whole a t b x h said l over) n o.2)

-- A read begins.
pub pin_steps : {D : Type 0} (gives : D → Event → Answer → D → Type 0) (setup : Setup) (e : Bool) (a : Asked) (t : Transfer) (u : Scope) (b : List ℕ) (old new : D) (n : Next)
    → ((y : List ℕ) → cut_of t (b ++ y) ≡ ends (cut.Whole (b ++ y))) → plan_of a ≡ Reads u → Does gives setup.seat old (act.Pin u) new (λ answer. AfterPin a answer n)
    → DoesStep gives setup e (Serving a (Skipping t)) b old (Made n) b new
pin_steps gives setup e a t u b old new n over is o =
    (act.Pin u, o.0, o.1, λ x h said l. pin_leads a t u o.0 b x h said (l.keeps.stands.0 ++ []) l is (skip_whole a t b x h said l over) n o.2)

-- There was no memory for the plan.
pub early_steps : {D : Type 0} (gives : D → Event → Answer → D → Type 0) (setup : Setup) (e : Bool) (a : Asked) (t : Transfer) (b : List ℕ) (old : D) (n : Next)
    → Replies n 503 true → DoesStep gives setup e (Serving a (Skipping t)) b old (Silent n) b old
early_steps gives setup e a t b old n o =
    (refl, (over_less n a t b (closed n (reply_text 503 Nothing None true) o), λ x h said l. early_leads a (Skipping t) b x h said l l.keeps.stands.1 n o))

-- a body so far has no data before its bytes
none_from : (limit : ℕ) (s : TransferState) → length (cut_from limit s []).bytes ≡ 0
none_from limit (Left zero) = refl
none_from limit (Left (suc n)) = refl
none_from limit (SizeLine sum line) = refl
none_from limit (Data sum n) = refl
none_from limit (DataEnd sum) = refl
none_from limit (DataEndCr sum) = refl
none_from limit (Trailer place count) = refl
none_from limit Over = refl

-- the stages are few by what came of the body
pub few_came : (t : Trail) (done : List ℕ) (transfer : Transfer) (n : ℕ) → IsCutBy t done transfer → ((z : List ℕ) → n ≤ length (t.cut z).bytes + 1) → n ≤ length done + 1
few_came t done transfer n is few =
    omega (arith, few [], ap (λ (c : BodyCut). length c.bytes) (is []), length-append done (cut_of transfer []).bytes, none_from transfer.limit (state_at_place transfer.sum transfer.place))

-- More of a body that is dropped was used.
pub skip_on : {s : Server} {e : Bool} (a : Asked) (t t2 : Transfer) (bytes b x : List ℕ) (n : ℕ) (h : Deeds) (said : List ℕ) (l : LeadsTo s e (Serving a (Skipping t)) b x h said)
    → GivesData t t2 b bytes n → LeadsTo s e (Serving a (Skipping t2)) (drop n b) x h said
skip_on {s} a t t2 bytes b x n h said l p =
    let done : List ℕ = l.keeps.stands.0 in
    silent (Serving a (Skipping t)) (Serving a (Skipping t2)) b (drop n b) x h said l (part_trail (done ++ bytes) t2 NotStarted)
    (λ y. ap (λ (c : BodyCut). by_body (requests s.base) a c) (seam l.trail done bytes b t t2 n l.keeps.stands.3 p y))
    (record {
      suits = l.keeps.suits;
      came = l.keeps.came ∙ l.keeps.stands.1;
      said = l.keeps.said ∙ ap (λ (c : Progress). said_so_far a c) l.keeps.stands.1;
      few = λ z. omega (arith, few_came l.trail done t (stages_in l.now) l.keeps.stands.3 l.keeps.few, length-append (done ++ bytes) (cut_of t2 z).bytes, length-append done bytes);
      stands = (done ++ bytes, refl, l.keeps.stands.2, λ z. refl);
    }) (λ i. i)

-- bytes that were used leave less
pub used_less : (n : ℕ) (b : List ℕ) (r : ℕ) → 0 < n → n ≤ length b → 3 * length (drop n b) + r < 3 * length b + r
used_less n b r some within = omega (arith, some, within, length-drop n b)

-- The next bytes of the body are dropped.
pub skip_steps : {D : Type 0} (gives : D → Event → Answer → D → Type 0) (setup : Setup) (e : Bool) (a : Asked) (t t2 : Transfer) (bytes b c : List ℕ) (count : ℕ) (old : D) (n : Next)
    → 0 < count → count ≤ length b → GivesData t t2 b bytes count → Says n (Serving a (Skipping t2)) [] → c ≡ drop count b → DoesStep gives setup e (Serving a (Skipping t)) b old (Silent n) c old
skip_steps gives setup e a t t2 bytes b c count old n some within p y is =
    subst (λ (c : List ℕ). DoesStep gives setup e (Serving a (Skipping t)) b old (Silent n) c old) (sym is) (
      refl,
      (
        subst (λ (p : Phase). effort p (drop count b) < effort (Serving a (Skipping t)) b) (sym y.0) (used_less count b 2 some within),
        λ x h said l. to_next n (Serving a (Skipping t2)) [] (drop count b) x h said y
            (subst (λ z. LeadsTo (server_of setup) e (Serving a (Skipping t2)) (drop count b) x h z) (sym (append-nil said)) (skip_on a t t2 bytes b x count h said l p)),
      ),
    )

-- The transfer of a body that is dropped has a fault: the reply says so.
pub skip_fault : {D : Type 0} (gives : D → Event → Answer → D → Type 0) (setup : Setup) (e : Bool) (a : Asked) (t : Transfer) (b : List ℕ) (st : ℕ) (old : D) (n : Next)
    → ((y : List ℕ) → cut_of t (b ++ y) ≡ ends (cut.Faulty st)) → Replies n st true → DoesStep gives setup e (Serving a (Skipping t)) b old (Silent n) b old
skip_fault gives setup e a t b st old n faulty o = (refl, (over_less n a t b (closed n (reply_text st Nothing None true) o), λ x h said l. go x h said l o))
  where
    go : (x : List ℕ) (h : Deeds) (said : List ℕ) → LeadsTo (server_of setup) e (Serving a (Skipping t)) b x h said → Replies n st true → LeadsTo (server_of setup) e n.phase b x h (said ++ n.said.items)
    go x h said l (inl y) =
        to_next n phase.Over (reply_text st Nothing None true) b x h said y
        (subst (λ (d : Deeds). LeadsTo (server_of setup) e phase.Over b x d (said ++ reply_text st Nothing None true)) (append-nil h)
        (answers_fault a (Skipping t) [] (l.keeps.stands.0 ++ []) st (reply_text st Nothing None true) (reply_text st Nothing None true) b b x h said l
        (λ y. l.keeps.stands.3 (b ++ y) ∙ ap (λ (c : BodyCut). with_data l.keeps.stands.0 c) (faulty y)) tt
        (subst (λ (c : Progress). IsOwn setup.site a (Faulty (l.keeps.stands.0 ++ []) st) c) (sym l.keeps.stands.1) tt)
        (omega (arith, few_came l.trail l.keeps.stands.0 t (stages_in l.now) l.keeps.stands.3 l.keeps.few, length-append l.keeps.stands.0 []))
        (subst (λ (c : Progress). Settles setup.site a (Faulty (l.keeps.stands.0 ++ []) st) c (reply_text st Nothing None true, false)) (sym l.keeps.stands.1) (l.keeps.stands.2, refl))
        (ap (λ (c : Progress). said_so_far a c ++ reply_text st Nothing None true) l.keeps.stands.1 ∙ ap (λ z. z ++ reply_text st Nothing None true) (append-nil (greeting a NotStarted))
        ∙ ap (λ (c : Progress). greeting a c ++ reply_text st Nothing None true) (sym l.keeps.stands.1))))
    go x h said l (inr y) = stops_early a (Skipping t) b x h said l l.keeps.stands.1 n y

-- the input ended within a body that is dropped
skip_ends : {s : Server} (a : Asked) (t : Transfer) (b x : List ℕ) (h : Deeds) (said : List ℕ) (l : LeadsTo s true (Serving a (Skipping t)) b x h said)
    → cut_of t b ≡ ends cut.Open → (n : Next) → Stops n → LeadsTo s true n.phase b x h (said ++ n.said.items)
skip_ends {s} a t b x h said l ended n y =
    to_next n phase.Over [] b x h said y
    (subst (λ (d : Deeds). LeadsTo s true phase.Over b x d (said ++ [])) (append-nil h)
    (ends_open a (Skipping t) [] (l.keeps.stands.0 ++ []) [] [] b b x h said l
    (l.keeps.stands.3 (b ++ []) ∙ ap (λ z. with_data l.keeps.stands.0 (cut_of t z)) (append-nil b) ∙ ap (λ (c : BodyCut). with_data l.keeps.stands.0 c) ended) tt
    (subst (λ (c : Progress). IsOwn s.base a (Unended (l.keeps.stands.0 ++ []) true) c) (sym l.keeps.stands.1) tt)
    (omega (arith, few_came l.trail l.keeps.stands.0 t (stages_in l.now) l.keeps.stands.3 l.keeps.few, length-append l.keeps.stands.0 []))
    (subst (λ (c : Progress). Settles s.base a (Unended (l.keeps.stands.0 ++ []) true) c ([], false)) (sym l.keeps.stands.1) (refl, l.keeps.stands.2, refl))
    (ap (λ (c : Progress). said_so_far a c ++ []) l.keeps.stands.1 ∙ ap (λ z. z ++ []) (append-nil (greeting a NotStarted)) ∙ ap (λ (c : Progress). greeting a c ++ []) (sym l.keeps.stands.1))))

-- The input ended within a body that is dropped: so does the connection.
pub skip_stops : {D : Type 0} (gives : D → Event → Answer → D → Type 0) (setup : Setup) (e : Bool) (a : Asked) (t : Transfer) (b : List ℕ) (old : D) (n : Next)
    → e ≡ true → cut_of t b ≡ ends cut.Open → Stops n → DoesStep gives setup e (Serving a (Skipping t)) b old (Silent n) b old
skip_stops gives setup e a t b old n at_end ended y =
    subst (λ e. DoesStep gives setup e (Serving a (Skipping t)) b old (Silent n) b old) (sym at_end)
    (refl, (over_less n a t b y.0, λ x h said l. skip_ends a t b x h said l ended n y))

-- Nothing can be done before more comes.
pub still_steps : {D : Type 0} (gives : D → Event → Answer → D → Type 0) (setup : Setup) (e : Bool) (p q : Phase) (b : List ℕ) (old : D)
    → IsStill p e b → q ≡ p → DoesStep gives setup e p b old (Wait q) b old
still_steps gives setup e p q b old still is = subst (λ (q : Phase). DoesStep gives setup e p b old (Wait q) b old) (sym is) (refl, (still, λ x h said l. l))

-- The next bytes of the body are dropped, as data or as none.
pub skip_next : {D : Type 0} (gives : D → Event → Answer → D → Type 0) (setup : Setup) (e : Bool) (a : Asked) (t t2 : Transfer) (b c : List ℕ) (count : ℕ) (told : Part) (old : D) (n : Next)
    → Parts t t2 b told → (told ≡ part.Data count) ⊎ (told ≡ part.Passed count) → Says n (Serving a (Skipping t2)) [] → c ≡ drop count b → DoesStep gives setup e (Serving a (Skipping t)) b old (Silent n) c old
skip_next gives setup e a t t2 b c count told old n p (inl f) y is =
    let q : Parts t t2 b (part.Data count) = subst (λ (k : Part). Parts t t2 b k) f p in skip_steps gives setup e a t t2 (take count b) b c count old n q.0 q.1 q.2 y is
skip_next gives setup e a t t2 b c count told old n p (inr f) y is =
    let q : Parts t t2 b (part.Passed count) = subst (λ (k : Part). Parts t t2 b k) f p in skip_steps gives setup e a t t2 [] b c count old n q.0 q.1 q.2 y is
