-- The steps of an Open.
use Rattle.std.proofs.Common.{◌≡◌, ◌⊎◌, inl, inr, zero, suc, nat_lt, arith, ℕ, Bool, true, false, cond, not, ◌||◌, List, [], ◌∷◌, ◌++◌, refl, sym, ap, subst, ◌∙◌, append-nil, Vec, true≢false, Option, None}
use Rattle.std.proofs.lemmas.Bool.Decides.{nat_tests}
use Rattle.std.specs.declared.alloc.Global.{Global}
use Rattle.gs_model.specs.declared.refusals.Refusal.TheVariants as why
use Rattle.gs_event.specs.declared.events.Action.TheVariants as act
use Rattle.gs_event.specs.declared.events.UploadKind.{UploadKind}
use Rattle.gs_event.specs.declared.answers.Answer.{Answer}
use Rattle.gs_event.specs.declared.answers.Answer.TheVariants.{Opened, Refused}
use Rattle.gs_http.specs.Framing.{announces}
use Rattle.gs_http.specs.declared.framing.Framing.{Framing}
use Rattle.gs_http.specs.declared.framing.Framing.TheVariants as framing
use Rattle.gs_term.specs.declared.names.Target.{Target}
use Rattle.gs_transfer.specs.Cuts as cut
use Rattle.gs_transfer.specs.Cuts.{with_data, body_at}
use Rattle.gs_transfer.specs.Views.{cut_of}
use Rattle.gs_transfer.specs.declared.places.Transfer.{Transfer}
use Rattle.gs_verdict.specs.Checks.{limit_of}
use Rattle.gs_verdict.specs.declared.verdicts.Asked.{Asked}
use Rattle.gs_reply.specs.Notices.{Nothing}
use Rattle.gs_reply.specs.Replies.{reply_text, continue_text}
use Rattle.gs_talk.specs.Plans.{Plan, Uploads, Patches, Deletes, Looks, Reads, NoPlan, opens, plan_of}
use Rattle.gs_talk.specs.Progress.{Move, Did, Short, Progress, NotStarted, Early, UploadOpen, PatchOpen, Lacking, Memory, Numbers}
use Rattle.gs_talk.specs.Moves.{first, progress_after}
use Rattle.gs_talk.specs.Seats.{Deeds}
use Rattle.gs_talk.specs.Replies.{said_so_far, greeting, ends_early}
use Rattle.gs_talk.specs.Logs.{Server, AllSuit, deeds_of, stage_count}
use Rattle.gs_session.specs.declared.phases.Phase.TheVariants.{Serving, Over}
use Rattle.gs_session.specs.declared.phases.Work.{Work}
use Rattle.gs_session.specs.declared.phases.Work.TheVariants.{Opening, Uploading, Failing}
use Rattle.gs_session.specs.declared.phases.Work.TheVariants as work
use Rattle.gs_session.specs.declared.phases.Want.TheVariants as want
use Rattle.gs_session.specs.declared.outcomes.Next.{Next}
use Rattle.gs_session.specs.declared.setups.Setup.{Setup}
use Rattle.gs_session.specs.declared.steps.Step.TheVariants.{Silent}
use Rattle.gs_session.specs.Trails.{Trail}
use Rattle.gs_session.specs.Leads.{LeadsTo}
use Rattle.gs_session.specs.Heads.{greeting_of}
use Rattle.gs_session.specs.Steps.{server_of, MakesPhase, rank, Rests}
use Rattle.gs_session.specs.Outcomes.{Says, Stops, Replies, ReceivesBody, IsFirstTransfer, AfterOpen, AfterOpenPatch}
use Rattle.gs_session.proofs.MoveLemmas.{moved}
use Rattle.gs_session.proofs.ReplyLemmas.{replies, replies_any, broke, to_next}
use Rattle.gs_session.proofs.ReadLemmas.{no_more, first_is}

-- no greeting, whether it is awaited or not
pub quiet : (v : Bool) → ◌≡◌ {A = List ℕ} (cond v [] []) []
quiet true = refl
quiet false = refl

-- before an Open nothing was said
pub unsaid : (a : Asked) (before : Progress) → before ≡ NotStarted → opens (plan_of a) ≡ true → said_so_far a before ≡ []
unsaid a before at o =
    ap (λ (c : Progress). said_so_far a c) at ∙ append-nil (greeting a NotStarted) ∙ ap (λ v. cond a.awaits_continue (cond (not v) continue_text []) []) o ∙ quiet a.awaits_continue

-- the trail of a body of which nothing came
abbrev pub first_trail : Asked → Progress → Trail
first_trail a c = record { cut = λ z. body_at (limit_of a.method) a.framing z; progress = c }

-- no data before a body leave it as it is
pub none_of : (c : cut.BodyCut) → c ≡ with_data [] c
none_of c = refl

-- An upload was opened, and its reading is begun, or there was no memory for it.
pub opened_so : {s : Server} {e : Bool} (a : Asked) (k : UploadKind) (since : Option ℕ) (r : ℕ) (b x : List ℕ) (h : Deeds) (said : List ℕ) (l : LeadsTo s e (Serving a Opening) b x h said)
    → plan_of a ≡ Uploads k since → (n : Next) (w : Work) → Says n (Serving a w) (greeting_of a) → ReceivesBody s.base a r w → LeadsTo s e n.phase b x (h ++ (act.Open k since, Opened r) ∷ []) (said ++ n.said.items)
opened_so {s} a k since r b x h said l is n (Uploading g t) y o =
    to_next n (Serving a (Uploading g t)) (greeting_of a) b x (h ++ (act.Open k since, Opened r) ∷ []) said y
    (moved a Opening (Uploading g t) (Did (act.Open k since) (Opened r) ∷ []) (greeting_of a) b b x h said l (first_trail a (UploadOpen r [])) (λ y. sym (l.keeps.stands.2 (b ++ y))) (is, tt)
    (first_is a l.trail.progress (Uploads k since) (Did (act.Open k since) (Opened r)) l.keeps.stands.0 is)
    (ap (λ z. z ++ greeting_of a) (unsaid a l.trail.progress l.keeps.stands.0 l.keeps.stands.1) ∙ sym (append-nil (greeting_of a))) (λ z. omega (arith, l.keeps.stands.3))
    (record { request = r; done = []; staged = []; stands = refl; fed = o.0; cut = λ z. sym (o.1 z) ∙ none_of (cut_of t z); few = omega (arith, l.keeps.stands.3) }))
opened_so {s} a k since r b x h said l is n (Failing want.Memory) y o =
    to_next n (Serving a (Failing want.Memory)) (greeting_of a) b x (h ++ (act.Open k since, Opened r) ∷ []) said y
    (moved a Opening (Failing want.Memory) (Did (act.Open k since) (Opened r) ∷ Short ∷ []) (greeting_of a) b b x h said l (first_trail a (Lacking (UploadOpen r []) Memory)) (λ y. sym (l.keeps.stands.2 (b ++ y))) (is, tt)
    (ap (λ (c : Progress). progress_after a c Short) (first_is a l.trail.progress (Uploads k since) (Did (act.Open k since) (Opened r)) l.keeps.stands.0 is))
    (ap (λ z. z ++ greeting_of a) (unsaid a l.trail.progress l.keeps.stands.0 l.keeps.stands.1) ∙ sym (append-nil (greeting_of a))) (λ z. omega (arith, l.keeps.stands.3))
    (UploadOpen r [], refl, tt))
opened_so a k since r b x h said l is n w y o = absurd o

-- A patch was opened.
pub opened_patch : {s : Server} {e : Bool} (a : Asked) (t : Target) (since : Option ℕ) (r : ℕ) (v : Vec ℕ Global) (transfer : Transfer) (b x : List ℕ) (h : Deeds) (said : List ℕ) (l : LeadsTo s e (Serving a Opening) b x h said)
    → plan_of a ≡ Patches t since → (n : Next) → Says n (Serving a (work.Patching r v transfer)) (greeting_of a) → v.items ≡ [] → IsFirstTransfer a transfer
    → LeadsTo s e n.phase b x (h ++ (act.OpenPatch t since, Opened r) ∷ []) (said ++ n.said.items)
opened_patch {s} a t since r v transfer b x h said l is n y none first =
    to_next n (Serving a (work.Patching r v transfer)) (greeting_of a) b x (h ++ (act.OpenPatch t since, Opened r) ∷ []) said y
    (moved a Opening (work.Patching r v transfer) (Did (act.OpenPatch t since) (Opened r) ∷ []) (greeting_of a) b b x h said l (first_trail a (PatchOpen r)) (λ y. sym (l.keeps.stands.2 (b ++ y))) (is, tt)
    (first_is a l.trail.progress (Patches t since) (Did (act.OpenPatch t since) (Opened r)) l.keeps.stands.0 is)
    (ap (λ z. z ++ greeting_of a) (unsaid a l.trail.progress l.keeps.stands.0 l.keeps.stands.1) ∙ sym (append-nil (greeting_of a))) (λ z. omega (arith, l.keeps.stands.3))
    (refl, λ z. sym (first z) ∙ none_of (cut_of transfer z) ∙ ap (λ d. with_data d (cut_of transfer z)) (sym none)))

-- an Open that is refused

-- want of memory before any event
pub early_is : (a : Asked) (p : Plan) → first a p Short ≡ Early Memory
early_is a (Uploads k since) = refl
early_is a (Patches t since) = refl
early_is a (Deletes t since) = refl
early_is a (Looks t) = refl
early_is a (Reads t) = refl
early_is a NoPlan = refl

-- nothing but the reply is said
unsaid_early : (a : Asked) (before : Progress) → before ≡ NotStarted → opens (plan_of a) ≡ true → said_so_far a before ≡ cond a.awaits_continue [] []
unsaid_early a before at o = unsaid a before at o ∙ sym (quiet a.awaits_continue)

-- there was no memory, at the store or at the session: 503
early_memory : {s : Server} {e : Bool} (a : Asked) (m : Move) (b x : List ℕ) (h : Deeds) (said : List ℕ) (l : LeadsTo s e (Serving a Opening) b x h said)
    → AllSuit s.piece (plan_of a) (m ∷ []) → stage_count m ≡ 0 → progress_after a l.trail.progress m ≡ Early Memory → (n : Next) → Replies n 503 true → LeadsTo s e n.phase b x (h ++ deeds_of (m ∷ [])) (said ++ n.said.items)
early_memory a m b x h said l suit none is n o =
    replies_any a Opening (m ∷ []) (Early Memory) (reply_text 503 Nothing None true) b x h said l (omega (arith, none))
    (λ o. record { suits = suit; came = is; mute = refl; own = tt; settled = refl; greeted = unsaid_early a l.trail.progress l.keeps.stands.0 l.keeps.stands.1 }) n o

-- a body that is not announced is empty
unannounced : (limit : ℕ) (f : Framing) (z : List ℕ) → announces f ≡ false → body_at limit f z ≡ record { bytes = []; end = cut.Whole z }
unfolding body_at
unannounced limit framing.Nothing z e = refl
unannounced limit (framing.Bytes zero) z e = refl
unannounced limit (framing.Bytes (suc n)) z e = let some : nat_lt 0 (suc n) ≡ true = grind (arith, nat_tests) in absurd (true≢false (sym some ∙ e))
unannounced limit framing.Chunked z e = absurd (cc)
unannounced limit framing.Malformed z e = refl
unannounced limit framing.Unknown z e = refl

or_false : (u v : Bool) → (u || v) ≡ false → v ≡ false
or_false true v e = absurd (cc)
or_false false v e = e

-- there was no number left: 507
numbers_by : {s : Server} {e : Bool} (a : Asked) (m : Move) (v : Bool) (b x : List ℕ) (h : Deeds) (said : List ℕ) (l : LeadsTo s e (Serving a Opening) b x h said)
    → AllSuit s.piece (plan_of a) (m ∷ []) → stage_count m ≡ 0 → progress_after a l.trail.progress m ≡ Early Numbers → ends_early a ≡ v → (n : Next) → Replies n 507 v → LeadsTo s e n.phase b x (h ++ deeds_of (m ∷ [])) (said ++ n.said.items)
numbers_by a m true b x h said l suit none is ends n o =
    replies_any a Opening (m ∷ []) (Early Numbers) (reply_text 507 Nothing None true) b x h said l (omega (arith, none))
    (λ o. record {
      suits = suit;
      came = is;
      mute = refl;
      own = tt;
      settled = ap (λ z. (reply_text 507 Nothing None z, not z)) (sym ends);
      greeted = unsaid_early a l.trail.progress l.keeps.stands.0 l.keeps.stands.1;
    }) n o
numbers_by a m false b x h said l suit none is ends n o =
    let whole : (y : List ℕ) → l.trail.cut (b ++ y) ≡ record { bytes = []; end = cut.Whole (b ++ y) } =
    λ y. l.keeps.stands.2 (b ++ y) ∙ unannounced (limit_of a.method) a.framing (b ++ y) (or_false a.closes (announces a.framing) ends) in
    replies a Opening (m ∷ []) (Early Numbers) [] (reply_text 507 Nothing None false) false b x h said l whole (omega (arith, none, l.keeps.stands.3))
    (record {
      suits = suit;
      came = is;
      mute = refl;
      own = tt;
      settled = ap (λ z. (reply_text 507 Nothing None z, not z)) (sym ends);
      greeted = unsaid_early a l.trail.progress l.keeps.stands.0 l.keeps.stands.1;
    }) n o

early_numbers : {s : Server} {e : Bool} (a : Asked) (m : Move) (b x : List ℕ) (h : Deeds) (said : List ℕ) (l : LeadsTo s e (Serving a Opening) b x h said)
    → AllSuit s.piece (plan_of a) (m ∷ []) → stage_count m ≡ 0 → progress_after a l.trail.progress m ≡ Early Numbers → (n : Next) → Replies n 507 (ends_early a) → LeadsTo s e n.phase b x (h ++ deeds_of (m ∷ [])) (said ++ n.said.items)
early_numbers a m b x h said l suit none is n o = numbers_by a m (ends_early a) b x h said l suit none is refl n o

-- The Open of an upload.
pub open_leads : {s : Server} {e : Bool} (a : Asked) (k : UploadKind) (since : Option ℕ) (answer : Answer) (b x : List ℕ) (h : Deeds) (said : List ℕ) (l : LeadsTo s e (Serving a Opening) b x h said)
    → plan_of a ≡ Uploads k since → (n : Next) → AfterOpen s.base a (greeting_of a) answer n → LeadsTo s e n.phase b x (h ++ (act.Open k since, answer) ∷ []) (said ++ n.said.items)
open_leads a k since (Opened r) b x h said l is n o = opened_so a k since r b x h said l is n o.0 o.1 o.2
open_leads a k since (Refused why.NoMemory) b x h said l is n o =
    early_memory a (Did (act.Open k since) (Refused why.NoMemory)) b x h said l (is, tt) refl (first_is a l.trail.progress (Uploads k since) (Did (act.Open k since) (Refused why.NoMemory)) l.keeps.stands.0 is) n o
open_leads a k since (Refused why.LastNumber) b x h said l is n o =
    early_numbers a (Did (act.Open k since) (Refused why.LastNumber)) b x h said l (is, tt) refl (first_is a l.trail.progress (Uploads k since) (Did (act.Open k since) (Refused why.LastNumber)) l.keeps.stands.0 is) n o
open_leads a k since answer b x h said l is n o =
    broke a Opening (Did (act.Open k since) answer) NotStarted b b x h said l (is, tt) l.keeps.stands.0 (first_is a NotStarted (Uploads k since) (Did (act.Open k since) answer) refl is) (λ o. tt) (no_more a Opening b x h said l) n o

-- The Open of a patch.
pub open_patch_leads : {s : Server} {e : Bool} (a : Asked) (t : Target) (since : Option ℕ) (answer : Answer) (b x : List ℕ) (h : Deeds) (said : List ℕ) (l : LeadsTo s e (Serving a Opening) b x h said)
    → plan_of a ≡ Patches t since → (n : Next) → AfterOpenPatch a (greeting_of a) answer n → LeadsTo s e n.phase b x (h ++ (act.OpenPatch t since, answer) ∷ []) (said ++ n.said.items)
open_patch_leads a t since (Opened r) b x h said l is n o = opened_patch a t since r o.0 o.1 b x h said l is n o.2 o.3 o.4
open_patch_leads a t since (Refused why.NoMemory) b x h said l is n o =
    early_memory a (Did (act.OpenPatch t since) (Refused why.NoMemory)) b x h said l (is, tt) refl (first_is a l.trail.progress (Patches t since) (Did (act.OpenPatch t since) (Refused why.NoMemory)) l.keeps.stands.0 is) n o
open_patch_leads a t since (Refused why.LastNumber) b x h said l is n o =
    early_numbers a (Did (act.OpenPatch t since) (Refused why.LastNumber)) b x h said l (is, tt) refl (first_is a l.trail.progress (Patches t since) (Did (act.OpenPatch t since) (Refused why.LastNumber)) l.keeps.stands.0 is) n o
open_patch_leads a t since answer b x h said l is n o =
    broke a Opening (Did (act.OpenPatch t since) answer) NotStarted b b x h said l (is, tt) l.keeps.stands.0 (first_is a NotStarted (Patches t since) (Did (act.OpenPatch t since) answer) refl is) (λ o. tt) (no_more a Opening b x h said l) n o

-- a reply that closes ends the connection
pub over_next : (n : Next) (v : List ℕ) → Says n Over v ⊎ Stops n → n.phase ≡ Over
over_next n v (inl o) = o.0
over_next n v (inr o) = o.0

-- There was no memory for the greeting, or for the plan.
pub open_short : (setup : Setup) (e : Bool) (a : Asked) (b : List ℕ) (n : Next) → Replies n 503 true → Rests setup e (Serving a Opening) b (Silent n) b
open_short setup e a b n o = (
  omega (arith, ap rank (over_next n (reply_text 503 Nothing None true) o)),
  λ x h said l. subst (λ (z : Deeds). LeadsTo (server_of setup) e n.phase b x z (said ++ n.said.items)) (append-nil h)
      (early_memory a Short b x h said l tt refl (first_is a l.trail.progress (plan_of a) Short l.keeps.stands.0 refl ∙ early_is a (plan_of a)) n o),
)

-- The Open of an upload, as a step.
pub open_makes : (setup : Setup) (e : Bool) (a : Asked) (k : UploadKind) (since : Option ℕ) (answer : Answer) (b text : List ℕ) (n : Next) → Uploads k since ≡ plan_of a → text ≡ greeting_of a → AfterOpen setup.site a text answer n
    → MakesPhase (server_of setup) e (Serving a Opening) b n.phase b (act.Open k since) answer n.said.items
open_makes setup e a k since answer b text n is f o = λ x h said l. open_leads a k since answer b x h said l (sym is) n (subst (λ u. AfterOpen setup.site a u answer n) f o)

-- The Open of a patch, as a step.
pub open_patch_makes : (setup : Setup) (e : Bool) (a : Asked) (t : Target) (since : Option ℕ) (answer : Answer) (b text : List ℕ) (n : Next) → Patches t since ≡ plan_of a → text ≡ greeting_of a → AfterOpenPatch a text answer n
    → MakesPhase (server_of setup) e (Serving a Opening) b n.phase b (act.OpenPatch t since) answer n.said.items
open_patch_makes setup e a t since answer b text n is f o = λ x h said l. open_patch_leads a t since answer b x h said l (sym is) n (subst (λ u. AfterOpenPatch a u answer n) f o)
