-- The steps that end an upload or a patch: a commit, or a cancel and a reply.
use Rattle.std.proofs.Common.{◌≡◌, ◌≢◌, inl, inr, ◌+◌, ◌≤◌, arith, ℕ, Bool, true, false, List, [], ◌∷◌, ◌++◌, length, Some, None, refl, sym, ap, subst, ◌∙◌, append-nil}
use Rattle.gs_model.specs.Triples.{RdfTriple}
use Rattle.gs_model.specs.declared.refusals.Refusal.TheVariants as why
use Rattle.gs_triple_lists.specs.Lists.{Listed}
use Rattle.gs_event.specs.declared.events.Action.TheVariants as act
use Rattle.gs_event.specs.declared.answers.Answer.{Answer}
use Rattle.gs_event.specs.declared.answers.Answer.TheVariants.{Staged, Status, Cancelled, Refused}
use Rattle.gs_transfer.specs.Cuts as cut
use Rattle.gs_verdict.specs.declared.verdicts.Asked.{Asked}
use Rattle.gs_reply.specs.Notices.{Nothing}
use Rattle.gs_reply.specs.Replies.{reply_text}
use Rattle.gs_talk.specs.Plans.{plan_of}
use Rattle.gs_talk.specs.Bodies.{States, refusal_at}
use Rattle.gs_talk.specs.Progress.{Did, Short, Progress, UploadOpen, Lacking, Late, Dropped, Wrote, Memory, Numbers, CancelDue, Cut, Misanswered, Mute, lines_out}
use Rattle.gs_talk.specs.Moves.{progress_after, progress, at_stage, at_cancel}
use Rattle.gs_talk.specs.Seats.{Deeds}
use Rattle.gs_talk.specs.Replies.{BodyState, Faulty, Unended, IsOwn, Settles, said_so_far, greeting, name_notice}
use Rattle.gs_talk.specs.Logs.{Server, stages_in}
use Rattle.gs_session.specs.declared.phases.Phase.TheVariants.{Serving, Over}
use Rattle.gs_session.specs.declared.phases.Work.{Work}
use Rattle.gs_session.specs.declared.phases.Work.TheVariants.{Uploading, Committing, Failing}
use Rattle.gs_session.specs.declared.phases.Work.TheVariants as work
use Rattle.gs_session.specs.declared.phases.Want.TheVariants as want
use Rattle.gs_session.specs.declared.outcomes.Next.{Next}
use Rattle.gs_session.specs.Leads.{LeadsTo}
use Rattle.gs_session.specs.Outcomes.{Stops, Replies, AfterStage, AfterCommit, AfterCancel}
use Rattle.gs_session.proofs.MoveLemmas.{moved, answers_fault, ends_open}
use Rattle.gs_session.proofs.ReplyLemmas.{replies, replies_any, broke, to_next}
use Rattle.gs_session.proofs.ReadLemmas.{IsWholeAt, few_still, no_more, whole_trail, reads_on, stops_whole}

-- in an upload no more was said than the greeting
greeted_upload : (a : Asked) (before : Progress) (r : ℕ) (g : List RdfTriple) → before ≡ UploadOpen r g → said_so_far a before ≡ greeting a (UploadOpen r g)
greeted_upload a before r g at = ap (λ (c : Progress). said_so_far a c) at ∙ append-nil (greeting a (UploadOpen r g))

-- The graph that the whole body means is staged: the Commit is made.
pub commit_leads : {s : Server} {e : Bool} (a : Asked) (k : Work) (r : ℕ) (g : List RdfTriple) (answer : Answer) (b x : List ℕ) (h : Deeds) (said body : List ℕ) (l : LeadsTo s e (Serving a k) b x h said)
    → l.trail.progress ≡ UploadOpen r g → IsWholeAt l body → States s.base a r body g → refusal_at s.base a (plan_of a) r body ≡ None → (n : Next) → AfterCommit a answer n → LeadsTo s e n.phase b x (h ++ (act.Commit, answer) ∷ []) (said ++ n.said.items)
commit_leads a k r g (Status st name number) b x h said body l at whole means served n o =
    replies a k (Did act.Commit (Status st name number) ∷ []) (Wrote r g st name number) body (reply_text st (name_notice name) (Some number) a.closes) a.closes b x h said l whole
    (few_still a k b x h said l body (Did act.Commit (Status st name number) ∷ []) whole refl)
    (record { suits = (tt, tt); came = ap (λ (c : Progress). progress_after a c (Did act.Commit (Status st name number))) at; mute = refl; own = means; settled = refl; greeted = greeted_upload a l.trail.progress r g at }) n o
commit_leads a k r g (Refused why.NoMemory) b x h said body l at whole means served n o =
    reads_on a k (Failing want.Memory) (Did act.Commit (Refused why.NoMemory) ∷ []) (Lacking (UploadOpen r g) Memory) [] b x h said body l whole (tt, tt) (ap (λ (c : Progress). progress_after a c (Did act.Commit (Refused why.NoMemory))) at)
    (append-nil (said_so_far a l.trail.progress) ∙ ap (λ (c : Progress). said_so_far a c) at) refl (UploadOpen r g, refl, tt) n o
commit_leads a k r g (Refused why.LastNumber) b x h said body l at whole means served n o =
    reads_on a k (Failing want.Numbers) (Did act.Commit (Refused why.LastNumber) ∷ []) (Lacking (UploadOpen r g) Numbers) [] b x h said body l whole (tt, tt) (ap (λ (c : Progress). progress_after a c (Did act.Commit (Refused why.LastNumber))) at)
    (append-nil (said_so_far a l.trail.progress) ∙ ap (λ (c : Progress). said_so_far a c) at) refl (UploadOpen r g, refl, (body, λ z. refl, (r, served))) n o
commit_leads a k r g answer b x h said body l at whole means served n o =
    broke a k (Did act.Commit answer) (UploadOpen r g) b b x h said l (tt, tt) at refl (λ o. tt) (no_more a k b x h said l) n o

-- The last triples of a whole body are staged: the Commit is due.
pub stage_last : {s : Server} {e : Bool} (a : Asked) (k : Work) (r : ℕ) (g : List RdfTriple) (v : Listed) (answer : Answer) (b x : List ℕ) (h : Deeds) (said body : List ℕ) (l : LeadsTo s e (Serving a k) b x h said)
    → l.trail.progress ≡ UploadOpen r g → IsWholeAt l body → stages_in l.now ≤ length body → ((z : List ℕ) → length body ≤ length (l.trail.cut z).bytes) → States s.base a r body (g ++ v.items) → v.items ≢ []
    → (m : Next) → AfterStage a Committing answer m → LeadsTo s e m.phase b x (h ++ (act.Stage v, answer) ∷ []) (said ++ m.said.items)
stage_last {s} {e} a k r g v answer b x h said body l at whole few long means full m o = go v.items refl full answer o
  where
    same : said_so_far a l.trail.progress ++ [] ≡ greeting a (UploadOpen r g) ++ []
    same = append-nil (said_so_far a l.trail.progress) ∙ ap (λ (c : Progress). said_so_far a c) at

    go : (us : List RdfTriple) → v.items ≡ us → us ≢ [] → (answer : Answer) → AfterStage a Committing answer m → LeadsTo s e m.phase b x (h ++ (act.Stage v, answer) ∷ []) (said ++ m.said.items)
    go [] is full answer o = absurd (full refl)
    go (u ∷ us) is full Staged o =
        to_next m (Serving a Committing) [] b x (h ++ (act.Stage v, Staged) ∷ []) said o
        (moved a k Committing (Did (act.Stage v) Staged ∷ []) [] b b x h said l (whole_trail body (UploadOpen r (g ++ v.items))) (λ y. sym (whole y)) (tt, tt)
        (ap (λ (c : Progress). progress_after a c (Did (act.Stage v) Staged)) at ∙ ap (λ w. at_stage r g w Staged) is ∙ ap (λ w. UploadOpen r (g ++ w)) (sym is)) same (λ z. omega (arith, few))
        (r, body, g ++ v.items, refl, means, λ z. refl))
    go (u ∷ us) is full (Refused why.NoMemory) o =
        to_next m (Serving a (Failing want.Memory)) [] b x (h ++ (act.Stage v, Refused why.NoMemory) ∷ []) said o
        (moved a k (Failing want.Memory) (Did (act.Stage v) (Refused why.NoMemory) ∷ []) [] b b x h said l (whole_trail body (Lacking (UploadOpen r g) Memory)) (λ y. sym (whole y)) (tt, tt)
        (ap (λ (c : Progress). progress_after a c (Did (act.Stage v) (Refused why.NoMemory))) at ∙ ap (λ w. at_stage r g w (Refused why.NoMemory)) is) same (λ z. omega (arith, few))
        (UploadOpen r g, refl, tt))
    go (u ∷ us) is full other o =
        broke a k (Did (act.Stage v) other) (UploadOpen r g) b b x h said l (tt, tt) at (ap (λ w. at_stage r g w other) is) (λ o. tt) (λ z. omega (arith, few, long z)) m o

-- What is open: an upload or a patch, which a Cancel gives up, and of which nothing was said but the greeting.
pub record IsOpenAt (a : Asked) (c : Progress) (r : ℕ) : Type 0 where
  pub cancels : (answer : Answer) → progress_after a c (Did act.Cancel answer) ≡ at_cancel c (Dropped r) answer
  pub own : (base : List ℕ) (o : BodyState) → IsOwn base a o c
  pub greeted : said_so_far a c ≡ greeting a (Dropped r)
  pub lines : lines_out c ≡ []

-- A whole body says nothing that is served: what is open is cancelled, and the reply says why.
pub drop_leads : {s : Server} {e : Bool} (a : Asked) (k : Work) (c : Progress) (r st : ℕ) (answer : Answer) (b x : List ℕ) (h : Deeds) (said body : List ℕ) (l : LeadsTo s e (Serving a k) b x h said)
    → l.trail.progress ≡ c → IsOpenAt a c r → IsWholeAt l body → refusal_at s.base a (plan_of a) r body ≡ Some st → (n : Next) → AfterCancel st a.closes answer n
    → LeadsTo s e n.phase b x (h ++ (act.Cancel, answer) ∷ []) (said ++ n.said.items)
drop_leads a k c r st Cancelled b x h said body l at is whole why n o =
    replies a k (Did act.Cancel Cancelled ∷ []) (Dropped r) body (reply_text st Nothing None a.closes) a.closes b x h said l whole (few_still a k b x h said l body (Did act.Cancel Cancelled ∷ []) whole refl)
    (record { suits = (tt, tt); came = ap (λ (c : Progress). progress_after a c (Did act.Cancel Cancelled)) at ∙ is.cancels Cancelled; mute = refl; own = tt; settled = (st, why, refl); greeted = ap (λ (c : Progress). said_so_far a c) at ∙ is.greeted }) n o
drop_leads {s} a k c r st answer b x h said body l at is whole why n o =
    broke a k (Did act.Cancel answer) c b b x h said l (tt, tt) at (is.cancels answer) (is.own s.base) (no_more a k b x h said l) n o

-- The transfer of the body has a fault: what is open is cancelled, and the reply says so.
pub fault_leads : {s : Server} {e : Bool} (a : Asked) (k : Work) (c : Progress) (r st : ℕ) (front : List ℕ) (answer : Answer) (b x : List ℕ) (h : Deeds) (said : List ℕ) (l : LeadsTo s e (Serving a k) b x h said)
    → l.trail.progress ≡ c → IsOpenAt a c r → ((y : List ℕ) → l.trail.cut (b ++ y) ≡ record { bytes = front; end = cut.Faulty st }) → (n : Next) → AfterCancel st true answer n
    → LeadsTo s e n.phase b x (h ++ (act.Cancel, answer) ∷ []) (said ++ n.said.items)
fault_leads {s} {e} a k c r st front Cancelled b x h said l at is faulty n o = go o
  where
    came : progress_after a l.trail.progress (Did act.Cancel Cancelled) ≡ Dropped r
    came = ap (λ (c : Progress). progress_after a c (Did act.Cancel Cancelled)) at ∙ is.cancels Cancelled

    few : stages_in l.now + 0 ≤ length front + 1
    few = omega (arith, l.keeps.few (b ++ []), ap (λ (c : cut.BodyCut). length c.bytes) (faulty []))

    greets : said_so_far a l.trail.progress ≡ greeting a (Dropped r)
    greets = ap (λ (c : Progress). said_so_far a c) at ∙ is.greeted

    go : Replies n st true → LeadsTo s e n.phase b x (h ++ (act.Cancel, Cancelled) ∷ []) (said ++ n.said.items)
    go (inl y) =
        to_next n Over (reply_text st Nothing None true) b x (h ++ (act.Cancel, Cancelled) ∷ []) said y
        (answers_fault a k (Did act.Cancel Cancelled ∷ []) front st (reply_text st Nothing None true) (reply_text st Nothing None true) b b x h said l faulty (tt, tt)
        (subst (λ (d : Progress). IsOwn s.base a (Faulty front st) d) (sym came) tt) few
        (subst (λ (d : Progress). Settles s.base a (Faulty front st) d (reply_text st Nothing None true, false)) (sym came) refl)
        (ap (λ z. z ++ reply_text st Nothing None true) greets ∙ ap (λ (d : Progress). greeting a d ++ reply_text st Nothing None true) (sym came)))
    go (inr y) =
        let mute : progress a l.trail.progress (Did act.Cancel Cancelled ∷ Short ∷ []) ≡ Mute (Dropped r) = ap (λ (d : Progress). progress_after a d Short) came in
        to_next n Over [] b x (h ++ (act.Cancel, Cancelled) ∷ []) said y
        (answers_fault a k (Did act.Cancel Cancelled ∷ Short ∷ []) front st [] [] b b x h said l faulty (tt, tt)
        (subst (λ (d : Progress). IsOwn s.base a (Faulty front st) d) (sym mute) tt) few
        (subst (λ (d : Progress). Settles s.base a (Faulty front st) d ([], false)) (sym mute) ((((reply_text st Nothing None true), false), refl), refl))
        (ap (λ z. z ++ []) greets ∙ ap (λ (d : Progress). greeting a d ++ []) (sym mute)))
fault_leads {s} a k c r st front answer b x h said l at is faulty n o =
    broke a k (Did act.Cancel answer) c b b x h said l (tt, tt) at (is.cancels answer) (is.own s.base) (no_more a k b x h said l) n o

-- The input ended in the body: what is open is cancelled, and nothing more is said.
pub leave_leads : {s : Server} (a : Asked) (k : Work) (c : Progress) (r : ℕ) (front : List ℕ) (answer : Answer) (b x : List ℕ) (h : Deeds) (said : List ℕ) (l : LeadsTo s true (Serving a k) b x h said)
    → l.trail.progress ≡ c → IsOpenAt a c r → l.trail.cut (b ++ []) ≡ record { bytes = front; end = cut.Open } → (n : Next) → Stops n
    → LeadsTo s true n.phase b x (h ++ (act.Cancel, answer) ∷ []) (said ++ n.said.items)
leave_leads {s} a k c r front Cancelled b x h said l at is ended n y =
    let came : progress_after a l.trail.progress (Did act.Cancel Cancelled) ≡ Dropped r = ap (λ (c : Progress). progress_after a c (Did act.Cancel Cancelled)) at ∙ is.cancels Cancelled in
    to_next n Over [] b x (h ++ (act.Cancel, Cancelled) ∷ []) said y
    (ends_open a k (Did act.Cancel Cancelled ∷ []) front [] [] b b x h said l ended (tt, tt)
    (subst (λ (d : Progress). IsOwn s.base a (Unended front true) d) (sym came) tt)
    (omega (arith, l.keeps.few (b ++ []), ap (λ (c : cut.BodyCut). length c.bytes) ended))
    (subst (λ (d : Progress). Settles s.base a (Unended front true) d ([], false)) (sym came) (refl, refl))
    (ap (λ z. z ++ []) (ap (λ (c : Progress). said_so_far a c) at ∙ is.greeted) ∙ ap (λ (d : Progress). greeting a d ++ []) (sym came)))
leave_leads {s} a k c r front answer b x h said l at is ended n y =
    broke a k (Did act.Cancel answer) c b b x h said l (tt, tt) at (is.cancels answer) (is.own s.base) (no_more a k b x h said l) n y

-- There was no memory: what is open is cancelled, and the reply is 503.
pub memory_leads : {s : Server} {e : Bool} (a : Asked) (before : Progress) (answer : Answer) (b x : List ℕ) (h : Deeds) (said : List ℕ) (l : LeadsTo s e (Serving a (Failing want.Memory)) b x h said)
    → l.trail.progress ≡ Lacking before Memory → (n : Next) → AfterCancel 503 true answer n → LeadsTo s e n.phase b x (h ++ (act.Cancel, answer) ∷ []) (said ++ n.said.items)
memory_leads a before Cancelled b x h said l at n o =
    replies_any a (Failing want.Memory) (Did act.Cancel Cancelled ∷ []) (Late Memory) (reply_text 503 Nothing None true) b x h said l refl
    (λ o. record {
      suits = (tt, tt);
      came = ap (λ (c : Progress). progress_after a c (Did act.Cancel Cancelled)) at;
      mute = refl;
      own = tt;
      settled = refl;
      greeted = ap (λ (c : Progress). said_so_far a c) at ∙ append-nil (greeting a (Late Memory));
    }) n o
memory_leads a before answer b x h said l at n o =
    broke a (Failing want.Memory) (Did act.Cancel answer) (Lacking before Memory) b b x h said l (tt, tt) at refl (λ o. tt) (no_more a (Failing want.Memory) b x h said l) n o

-- No number was left: what is open is cancelled, and the reply is 507.
pub numbers_leads : {s : Server} {e : Bool} (a : Asked) (before : Progress) (r : ℕ) (answer : Answer) (b x : List ℕ) (h : Deeds) (said body : List ℕ) (l : LeadsTo s e (Serving a (Failing want.Numbers)) b x h said)
    → l.trail.progress ≡ Lacking before Numbers → IsWholeAt l body → refusal_at s.base a (plan_of a) r body ≡ None → (n : Next) → AfterCancel 507 a.closes answer n → LeadsTo s e n.phase b x (h ++ (act.Cancel, answer) ∷ []) (said ++ n.said.items)
numbers_leads a before r Cancelled b x h said body l at whole served n o =
    replies a (Failing want.Numbers) (Did act.Cancel Cancelled ∷ []) (Late Numbers) body (reply_text 507 Nothing None a.closes) a.closes b x h said l whole (few_still a (Failing want.Numbers) b x h said l body (Did act.Cancel Cancelled ∷ []) whole refl)
    (record {
      suits = (tt, tt);
      came = ap (λ (c : Progress). progress_after a c (Did act.Cancel Cancelled)) at;
      mute = refl;
      own = tt;
      settled = ((r, served), refl);
      greeted = ap (λ (c : Progress). said_so_far a c) at ∙ append-nil (greeting a (Late Numbers));
    }) n o
numbers_leads a before r answer b x h said body l at whole served n o =
    broke a (Failing want.Numbers) (Did act.Cancel answer) (Lacking before Numbers) b b x h said l (tt, tt) at refl (λ o. tt) (no_more a (Failing want.Numbers) b x h said l) n o

-- A read that cannot go on is cancelled, and nothing more is said.
pub cut_leads : {s : Server} {e : Bool} (a : Asked) (answer : Answer) (b x : List ℕ) (h : Deeds) (said : List ℕ) (l : LeadsTo s e (Serving a work.Cutting) b x h said)
    → (n : Next) → Stops n → LeadsTo s e n.phase b x (h ++ (act.Cancel, answer) ∷ []) (said ++ n.said.items)
cut_leads {s} {e} a answer b x h said l n y = go answer
  where
    out : List ℕ
    out = l.keeps.stands.0

    at : l.trail.progress ≡ CancelDue out
    at = l.keeps.stands.2

    go : (answer : Answer) → LeadsTo s e n.phase b x (h ++ (act.Cancel, answer) ∷ []) (said ++ n.said.items)
    go Cancelled =
        stops_whole a work.Cutting (Did act.Cancel Cancelled ∷ []) (Cut out) b x h said l.keeps.stands.1 l (λ y. l.keeps.stands.3 (b ++ y)) (tt, tt)
        (ap (λ (c : Progress). progress_after a c (Did act.Cancel Cancelled)) at) refl tt refl (ap (λ (c : Progress). said_so_far a c) at) n y
    go other =
        stops_whole a work.Cutting (Did act.Cancel other ∷ []) (Misanswered (CancelDue out)) b x h said l.keeps.stands.1 l (λ y. l.keeps.stands.3 (b ++ y)) (tt, tt)
        (ap (λ (c : Progress). progress_after a c (Did act.Cancel other)) at) refl tt refl (ap (λ (c : Progress). said_so_far a c) at) n y
