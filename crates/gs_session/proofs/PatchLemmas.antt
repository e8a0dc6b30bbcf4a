-- The steps of a patch.
use Rattle.std.proofs.Common.{◌≡◌, ◌≢◌, ◌+◌, ◌≤◌, ◌<◌, arith, ℕ, Bool, true, List, [], ◌∷◌, ◌++◌, length, drop, Option, Some, None, refl, sym, ap, subst, ◌∙◌, append-nil, length-append, Vec}
use Rattle.std.specs.declared.alloc.Global.{Global}
use Rattle.gs_model.specs.declared.refusals.Refusal.{Refusal}
use Rattle.gs_model.specs.declared.refusals.Refusal.TheVariants as why
use Rattle.gs_event.specs.declared.events.Event.{Event}
use Rattle.gs_event.specs.declared.events.Action.TheVariants as act
use Rattle.gs_event.specs.declared.answers.Answer.{Answer}
use Rattle.gs_event.specs.declared.answers.Answer.TheVariants.{Status, Refused}
use Rattle.gs_event.specs.declared.updates.Op.{Op}
use Rattle.gs_transfer.specs.Cuts.{BodyCut, ends, with_data}
use Rattle.gs_transfer.specs.Cuts as cut
use Rattle.gs_transfer.specs.Views.{cut_of}
use Rattle.gs_transfer.specs.declared.places.Transfer.{Transfer}
use Rattle.gs_triples.specs.Meanings.{Fault, Syntax, TermTooLong}
use Rattle.gs_update_text.specs.Requests.{UpdateRequest, Rejection, Broken}
use Rattle.gs_update_text.specs.Texts.{request_by}
use Rattle.gs_update.specs.Answers.{AreOperationsOf, Refuses}
use Rattle.gs_verdict.specs.declared.verdicts.Asked.{Asked}
use Rattle.gs_reply.specs.Notices.{Nothing}
use Rattle.gs_reply.specs.Replies.{reply_text}
use Rattle.gs_stream.specs.Requests.{by_body, requests}
use Rattle.gs_talk.specs.Plans.{Plan, plan_of}
use Rattle.gs_talk.specs.Bodies.{text_base, refusal_at, rejection_status, Orders}
use Rattle.gs_talk.specs.Progress.{Did, Short, Progress, PatchOpen, Lacking, Dropped, Patched, Memory, Numbers}
use Rattle.gs_talk.specs.Moves.{progress_after}
use Rattle.gs_talk.specs.Seats.{Deeds}
use Rattle.gs_talk.specs.Replies.{said_so_far, greeting}
use Rattle.gs_talk.specs.Logs.{Server, stages_in}
use Rattle.gs_session.specs.declared.phases.Phase.{Phase}
use Rattle.gs_session.specs.declared.phases.Phase.TheVariants.{Serving}
use Rattle.gs_session.specs.declared.phases.Work.{Work}
use Rattle.gs_session.specs.declared.phases.Work.TheVariants as work
use Rattle.gs_session.specs.declared.phases.Work.TheVariants.{Failing}
use Rattle.gs_session.specs.declared.phases.Want.TheVariants as want
use Rattle.gs_session.specs.declared.setups.Setup.{Setup}
use Rattle.gs_session.specs.declared.outcomes.Next.{Next}
use Rattle.gs_session.specs.declared.steps.Step.{Step}
use Rattle.gs_session.specs.declared.steps.Step.TheVariants.{Silent, Made, Wait}
use Rattle.gs_session.specs.Leads.{LeadsTo}
use Rattle.gs_session.specs.Outcomes.{Says, Stops, AfterCommitPatch, AfterCancel}
use Rattle.gs_session.specs.Steps.{Does, DoesStep, GivesData, Rests, effort, server_of}
use Rattle.gs_session.proofs.MoveLemmas.{silent, moved}
use Rattle.gs_session.proofs.ReplyLemmas.{replies, broke, to_next}
use Rattle.gs_session.proofs.ReadLemmas.{IsWholeAt, few_still, no_more, reads_on}
use Rattle.gs_session.proofs.UploadLemmas.{part_trail, seam}
use Rattle.gs_session.proofs.CommitLemmas.{IsOpenAt, drop_leads, fault_leads, leave_leads}
use Rattle.gs_session.proofs.SkipLemmas.{few_came, used_less}
use Rattle.gs_session.proofs.PlanLemmas.{patch_plan}

-- what an open patch allows

-- an open patch can be cancelled
pub patch_open : (a : Asked) (r : ℕ) → IsOpenAt a (PatchOpen r) r
patch_open a r = record { cancels = λ answer. refl; own = λ base o. tt; greeted = append-nil (greeting a (Dropped r)); lines = refl }

-- in a patch no more was said than the greeting
greeted_patch : (a : Asked) (before : Progress) (r : ℕ) → before ≡ PatchOpen r → said_so_far a before ≡ greeting a (PatchOpen r)
greeted_patch a before r at = ap (λ (c : Progress). said_so_far a c) at ∙ append-nil (greeting a (PatchOpen r))

-- the refusal of a patch's body, by the fault of its text
pub patch_refusal : {s : Server} {e : Bool} (a : Asked) (k : Work) (b x : List ℕ) (h : Deeds) (said : List ℕ) (l : LeadsTo s e (Serving a k) b x h said) (r : ℕ) (body : List ℕ) (why : Option Rejection)
    → l.trail.progress ≡ PatchOpen r → (request_by (text_base s.base a.graph) r body).1 ≡ why → refusal_at s.base a (plan_of a) r body ≡ rejection_status why
patch_refusal {s} a k b x h said l r body why at is =
    ap (λ (p : Plan). refusal_at s.base a p r body) (patch_plan a l.now r (l.keeps.came ∙ at)).2 ∙ ap (λ (f : Option Rejection). rejection_status f) is

-- The body is whole, and is an update: the CommitPatch is made.
pub order_leads : {s : Server} {e : Bool} (a : Asked) (k : Work) (r : ℕ) (ops : Vec Op Global) (answer : Answer) (b x : List ℕ) (h : Deeds) (said body : List ℕ) (l : LeadsTo s e (Serving a k) b x h said)
    → l.trail.progress ≡ PatchOpen r → IsWholeAt l body → Orders s.base a r body ops.items → (n : Next) → AfterCommitPatch a answer n
    → LeadsTo s e n.phase b x (h ++ (act.CommitPatch ops, answer) ∷ []) (said ++ n.said.items)
order_leads a k r ops (Status st name number) b x h said body l at whole orders n o =
    replies a k (Did (act.CommitPatch ops) (Status st name number) ∷ []) (Patched r ops.items st number) body (reply_text st Nothing (Some number) a.closes) a.closes b x h said l whole
    (few_still a k b x h said l body (Did (act.CommitPatch ops) (Status st name number) ∷ []) whole refl)
    (record {
      suits = (tt, tt);
      came = ap (λ (c : Progress). progress_after a c (Did (act.CommitPatch ops) (Status st name number))) at;
      mute = refl;
      own = orders;
      settled = refl;
      greeted = greeted_patch a l.trail.progress r at;
    }) n o
order_leads a k r ops (Refused why.NoMemory) b x h said body l at whole orders n o =
    reads_on a k (Failing want.Memory) (Did (act.CommitPatch ops) (Refused why.NoMemory) ∷ []) (Lacking (PatchOpen r) Memory) [] b x h said body l whole (tt, tt)
    (ap (λ (c : Progress). progress_after a c (Did (act.CommitPatch ops) (Refused why.NoMemory))) at)
    (append-nil (said_so_far a l.trail.progress) ∙ ap (λ (c : Progress). said_so_far a c) at) refl (PatchOpen r, refl, tt) n o
order_leads a k r ops (Refused why.LastNumber) b x h said body l at whole orders n o =
    reads_on a k (Failing want.Numbers) (Did (act.CommitPatch ops) (Refused why.LastNumber) ∷ []) (Lacking (PatchOpen r) Numbers) [] b x h said body l whole (tt, tt)
    (ap (λ (c : Progress). progress_after a c (Did (act.CommitPatch ops) (Refused why.LastNumber))) at)
    (append-nil (said_so_far a l.trail.progress) ∙ ap (λ (c : Progress). said_so_far a c) at) refl
    (PatchOpen r, refl, (body, λ z. refl, (r, patch_refusal a k b x h said l r body None at orders.0))) n o
order_leads a k r ops answer b x h said body l at whole orders n o =
    broke a k (Did (act.CommitPatch ops) answer) (PatchOpen r) b b x h said l (tt, tt) at refl (λ o. tt) (no_more a k b x h said l) n o

-- There was no memory for a patch.
pub patch_short : {s : Server} {e : Bool} (a : Asked) (k : Work) (r : ℕ) (rest : List ℕ → BodyCut) (b c x : List ℕ) (h : Deeds) (said : List ℕ) (l : LeadsTo s e (Serving a k) b x h said)
    → l.trail.progress ≡ PatchOpen r → ((y : List ℕ) → rest (c ++ y) ≡ l.trail.cut (b ++ y)) → ((z : List ℕ) → stages_in l.now + 0 ≤ length (rest z).bytes + 1)
    → (n : Next) → Says n (Serving a (Failing want.Memory)) [] → LeadsTo s e n.phase c x h (said ++ n.said.items)
patch_short {s} {e} a k r rest b c x h said l at same few n y =
    to_next n (Serving a (Failing want.Memory)) [] c x h said y
    (subst (λ (d : Deeds). LeadsTo s e (Serving a (Failing want.Memory)) c x d (said ++ [])) (append-nil h)
    (moved a k (Failing want.Memory) (Short ∷ []) [] b c x h said l (record { cut = rest; progress = Lacking (PatchOpen r) Memory }) same tt (ap (λ (c : Progress). progress_after a c Short) at)
    (append-nil (said_so_far a l.trail.progress) ∙ ap (λ (c : Progress). said_so_far a c) at) few (PatchOpen r, refl, tt)))

-- steps

-- the stages are few by what came of a patch's body, and by more of it
few_patch : {s : Server} {e : Bool} (a : Asked) (r : ℕ) (v : Vec ℕ Global) (t t2 : Transfer) (bytes b x : List ℕ) (h : Deeds) (said : List ℕ) (l : LeadsTo s e (Serving a (work.Patching r v t)) b x h said)
    → (z : List ℕ) → stages_in l.now + 0 ≤ length (with_data (v.items ++ bytes) (cut_of t2 z)).bytes + 1
few_patch a r v t t2 bytes b x h said l z =
    omega (arith, few_came l.trail v.items t (stages_in l.now) l.keeps.stands.1 l.keeps.few, length-append (v.items ++ bytes) (cut_of t2 z).bytes, length-append v.items bytes)

-- More of a patch's body is kept.
pub patch_on : {s : Server} {e : Bool} (a : Asked) (r : ℕ) (v v2 : Vec ℕ Global) (t t2 : Transfer) (bytes b x : List ℕ) (n : ℕ) (h : Deeds) (said : List ℕ) (l : LeadsTo s e (Serving a (work.Patching r v t)) b x h said)
    → GivesData t t2 b bytes n → v2.items ≡ v.items ++ bytes → LeadsTo s e (Serving a (work.Patching r v2 t2)) (drop n b) x h said
patch_on {s} a r v v2 t t2 bytes b x n h said l p is =
    silent (Serving a (work.Patching r v t)) (Serving a (work.Patching r v2 t2)) b (drop n b) x h said l (part_trail (v.items ++ bytes) t2 (PatchOpen r))
    (λ y. ap (λ (c : BodyCut). by_body (requests s.base) a c) (seam l.trail v.items bytes b t t2 n l.keeps.stands.1 p y))
    (record {
      suits = l.keeps.suits;
      came = l.keeps.came ∙ l.keeps.stands.0;
      said = l.keeps.said ∙ ap (λ (c : Progress). said_so_far a c) l.keeps.stands.0;
      few = λ z. omega (arith, few_patch a r v t t2 bytes b x h said l z);
      stands = (refl, λ z. ap (λ w. with_data w (cut_of t2 z)) (sym is));
    }) (λ i. i)

-- The next bytes of a patch's body are kept, or are none of its data.
pub keep_rests : (setup : Setup) (e : Bool) (a : Asked) (r : ℕ) (v v2 : Vec ℕ Global) (t t2 : Transfer) (bytes b c : List ℕ) (count : ℕ) (n : Next)
    → 0 < count → count ≤ length b → GivesData t t2 b bytes count → v2.items ≡ v.items ++ bytes → Says n (Serving a (work.Patching r v2 t2)) [] → c ≡ drop count b
    → Rests setup e (Serving a (work.Patching r v t)) b (Silent n) c
keep_rests setup e a r v v2 t t2 bytes b c count n some within p more y is =
    subst (λ (c : List ℕ). Rests setup e (Serving a (work.Patching r v t)) b (Silent n) c) (sym is) (
      subst (λ (p : Phase). effort p (drop count b) < effort (Serving a (work.Patching r v t)) b) (sym y.0) (used_less count b 2 some within),
      λ x h said l. to_next n (Serving a (work.Patching r v2 t2)) [] (drop count b) x h said y
          (subst (λ z. LeadsTo (server_of setup) e (Serving a (work.Patching r v2 t2)) (drop count b) x h z) (sym (append-nil said)) (patch_on a r v v2 t t2 bytes b x count h said l p more)),
    )

-- There was no memory for the next bytes of a patch's body.
pub keep_fails : (setup : Setup) (e : Bool) (a : Asked) (r : ℕ) (v : Vec ℕ Global) (t t2 : Transfer) (bytes b c : List ℕ) (count : ℕ) (n : Next)
    → 0 < count → count ≤ length b → GivesData t t2 b bytes count → Says n (Serving a (Failing want.Memory)) [] → c ≡ drop count b
    → Rests setup e (Serving a (work.Patching r v t)) b (Silent n) c
keep_fails setup e a r v t t2 bytes b c count n some within p y is =
    subst (λ (c : List ℕ). Rests setup e (Serving a (work.Patching r v t)) b (Silent n) c) (sym is) (
      subst (λ (p : Phase). effort p (drop count b) < effort (Serving a (work.Patching r v t)) b) (sym y.0) (omega (arith, used_less count b 2 some within)),
      λ x h said l. patch_short a (work.Patching r v t) r (λ z. with_data (v.items ++ bytes) (cut_of t2 z)) b (drop count b) x h said l l.keeps.stands.0
          (seam l.trail v.items bytes b t t2 count l.keeps.stands.1 p) (few_patch a r v t t2 bytes b x h said l) n y,
    )

-- a step without an event leaves the door
pub rests_steps : {D : Type 0} (gives : D → Event → Answer → D → Type 0) (setup : Setup) (e : Bool) (p : Phase) (b c : List ℕ) (old : D) (step : Step) → Rests setup e p b step c → DoesStep gives setup e p b old step c old
rests_steps gives setup e p b c old (Silent n) r = (refl, r)
rests_steps gives setup e p b c old (Wait q) r = (refl, r)
rests_steps gives setup e p b c old (Made n) r = absurd r

-- the body of a patch is whole
patch_whole : {s : Server} {e : Bool} (a : Asked) (r : ℕ) (v : Vec ℕ Global) (t : Transfer) (b x : List ℕ) (h : Deeds) (said : List ℕ) (l : LeadsTo s e (Serving a (work.Patching r v t)) b x h said) (body : List ℕ)
    → v.items ≡ body → ((y : List ℕ) → cut_of t (b ++ y) ≡ ends (cut.Whole (b ++ y))) → IsWholeAt l body
patch_whole a r v t b x h said l body is over y =
    l.keeps.stands.1 (b ++ y) ∙ ap (λ (c : BodyCut). with_data v.items c) (over y) ∙ ap (λ (z : List ℕ). record { bytes = z; end = cut.Whole (b ++ y) }) (append-nil v.items ∙ is)

-- The operations of a patch take effect.
pub order_steps : {D : Type 0} (gives : D → Event → Answer → D → Type 0) (setup : Setup) (e : Bool) (a : Asked) (r : ℕ) (v : Vec ℕ Global) (t : Transfer) (body b : List ℕ) (ops : Vec Op Global) (old new : D) (n : Next) (base : List ℕ)
    → v.items ≡ body → ((y : List ℕ) → cut_of t (b ++ y) ≡ ends (cut.Whole (b ++ y))) → base ≡ text_base setup.site a.graph → AreOperationsOf ops.items (request_by base r body)
    → Does gives setup.seat old (act.CommitPatch ops) new (λ answer. AfterCommitPatch a answer n) → DoesStep gives setup e (Serving a (work.Patching r v t)) b old (Made n) b new
order_steps gives setup e a r v t body b ops old new n base is over under orders o = (
  act.CommitPatch ops,
  o.0,
  o.1,
  λ x h said l. order_leads a (work.Patching r v t) r ops o.0 b x h said body l l.keeps.stands.0 (patch_whole a r v t b x h said l body is over)
      (subst (λ z. AreOperationsOf ops.items (request_by z r body)) under orders) n o.2,
)

-- A whole body is no update that is served: the patch is cancelled.
pub reject_steps : {D : Type 0} (gives : D → Event → Answer → D → Type 0) (setup : Setup) (e : Bool) (a : Asked) (r : ℕ) (v : Vec ℕ Global) (t : Transfer) (body b : List ℕ) (why : Rejection) (st : ℕ) (old new : D) (n : Next) (base : List ℕ)
    → v.items ≡ body → ((y : List ℕ) → cut_of t (b ++ y) ≡ ends (cut.Whole (b ++ y))) → base ≡ text_base setup.site a.graph → (request_by base r body).1 ≡ Some why → rejection_status (Some why) ≡ Some st
    → Does gives setup.seat old act.Cancel new (λ answer. AfterCancel st a.closes answer n) → DoesStep gives setup e (Serving a (work.Patching r v t)) b old (Made n) b new
reject_steps gives setup e a r v t body b why st old new n base is over under fault status o = (
  act.Cancel,
  o.0,
  o.1,
  λ x h said l. drop_leads a (work.Patching r v t) (PatchOpen r) r st o.0 b x h said body l l.keeps.stands.0 (patch_open a r) (patch_whole a r v t b x h said l body is over)
      (patch_refusal a (work.Patching r v t) b x h said l r body (Some why) l.keeps.stands.0 (ap (λ z. (request_by z r body).1) (sym under) ∙ fault) ∙ status) n o.2,
)

-- a refusal that is neither want of memory nor what is out of the profile tells a broken text
broken : (f : Refusal) (q : UpdateRequest) → Refuses f q → f ≢ why.NoMemory → f ≢ why.NotInProfile → (k : Fault) × (q.1 ≡ Some (Broken k))
broken (why.Syntax at) q r m p = (Syntax, r.broken)
broken why.TermTooLong q r m p = (TermTooLong, r)
broken why.NoMemory q r m p = absurd (m refl)
broken why.NotInProfile q r m p = absurd (p refl)
broken other q r m p = absurd r

-- A whole body is no update: the patch is cancelled.
pub broken_steps : {D : Type 0} (gives : D → Event → Answer → D → Type 0) (setup : Setup) (e : Bool) (a : Asked) (r : ℕ) (v : Vec ℕ Global) (t : Transfer) (body b : List ℕ) (f : Refusal) (old new : D) (n : Next) (base : List ℕ)
    → v.items ≡ body → ((y : List ℕ) → cut_of t (b ++ y) ≡ ends (cut.Whole (b ++ y))) → base ≡ text_base setup.site a.graph → Refuses f (request_by base r body) → f ≢ why.NoMemory → f ≢ why.NotInProfile
    → Does gives setup.seat old act.Cancel new (λ answer. AfterCancel 400 a.closes answer n) → DoesStep gives setup e (Serving a (work.Patching r v t)) b old (Made n) b new
broken_steps gives setup e a r v t body b f old new n base is over under refused m p o =
    let k = broken f (request_by base r body) refused m p in
    reject_steps gives setup e a r v t body b (Broken k.0) 400 old new n base is over under k.1 refl o

-- There was no memory for the reading of a whole body.
pub order_fails : {D : Type 0} (gives : D → Event → Answer → D → Type 0) (setup : Setup) (e : Bool) (a : Asked) (r : ℕ) (v : Vec ℕ Global) (t : Transfer) (b : List ℕ) (old : D) (n : Next)
    → Says n (Serving a (Failing want.Memory)) [] → DoesStep gives setup e (Serving a (work.Patching r v t)) b old (Silent n) b old
order_fails gives setup e a r v t b old n y = (
  refl,
  (
    subst (λ (p : Phase). effort p b < effort (Serving a (work.Patching r v t)) b) (sym y.0) (omega arith),
    λ x h said l. patch_short a (work.Patching r v t) r l.trail.cut b b x h said l l.keeps.stands.0 (λ y. refl) (no_more a (work.Patching r v t) b x h said l) n y,
  ),
)

-- The transfer of a patch's body has a fault: the patch is cancelled.
pub patch_fault : {D : Type 0} (gives : D → Event → Answer → D → Type 0) (setup : Setup) (e : Bool) (a : Asked) (r : ℕ) (v : Vec ℕ Global) (t : Transfer) (b : List ℕ) (st : ℕ) (old new : D) (n : Next)
    → ((y : List ℕ) → cut_of t (b ++ y) ≡ ends (cut.Faulty st)) → Does gives setup.seat old act.Cancel new (λ answer. AfterCancel st true answer n)
    → DoesStep gives setup e (Serving a (work.Patching r v t)) b old (Made n) b new
patch_fault gives setup e a r v t b st old new n faulty o = (
  act.Cancel,
  o.0,
  o.1,
  λ x h said l. fault_leads a (work.Patching r v t) (PatchOpen r) r st (v.items ++ []) o.0 b x h said l l.keeps.stands.0 (patch_open a r)
      (λ y. l.keeps.stands.1 (b ++ y) ∙ ap (λ (c : BodyCut). with_data v.items c) (faulty y)) n o.2,
)

-- The input ended within a patch's body: the patch is cancelled.
pub patch_ends : {D : Type 0} (gives : D → Event → Answer → D → Type 0) (setup : Setup) (e : Bool) (a : Asked) (r : ℕ) (v : Vec ℕ Global) (t : Transfer) (b : List ℕ) (old new : D) (n : Next)
    → e ≡ true → cut_of t b ≡ ends cut.Open → Does gives setup.seat old act.Cancel new (λ answer. Stops n)
    → DoesStep gives setup e (Serving a (work.Patching r v t)) b old (Made n) b new
patch_ends gives setup e a r v t b old new n at_end ended o =
    subst (λ e. DoesStep gives setup e (Serving a (work.Patching r v t)) b old (Made n) b new) (sym at_end) (
      act.Cancel,
      o.0,
      o.1,
      λ x h said l. leave_leads a (work.Patching r v t) (PatchOpen r) r (v.items ++ []) o.0 b x h said l l.keeps.stands.0 (patch_open a r)
          (l.keeps.stands.1 (b ++ []) ∙ ap (λ z. with_data v.items (cut_of t z)) (append-nil b) ∙ ap (λ (c : BodyCut). with_data v.items c) ended) n o.2,
    )
