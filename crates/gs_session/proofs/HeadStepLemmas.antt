-- What the next head leads to: it is denied, it is too long, what it asks for is begun, or there was no memory for it.
use Rattle.std.proofs.Common.{◌≡◌, inl, inr, ◌≤◌, ◌<◌, arith, ℕ, Bool, true, false, cond, not, eqb, leb, List, [], ◌∷◌, ◌++◌, length, take, drop, refl, sym, ap, subst, ◌∙◌, append-nil, length-append, length-take, length-drop, Some, None}
use Rattle.std.proofs.lemmas.Bool.{leb-true}
use Rattle.gs_transfer.specs.Cuts as cut
use Rattle.gs_transfer.specs.Cuts.{BodyCut, End, body_at, with_data}
use Rattle.gs_transfer.specs.Views.{cut_of}
use Rattle.gs_verdict.specs.Bytes.{head_verdict}
use Rattle.gs_verdict.specs.Checks.{limit_of}
use Rattle.gs_verdict.specs.declared.verdicts.Asked.{Asked}
use Rattle.gs_verdict.specs.declared.verdicts.Denial.{Denial}
use Rattle.gs_verdict.specs.declared.verdicts.Verdict.{Verdict}
use Rattle.gs_verdict.specs.declared.verdicts.Verdict.TheVariants.{Deny, Ask}
use Rattle.gs_reply.specs.Notices.{Nothing}
use Rattle.gs_reply.specs.Replies.{reply_text}
use Rattle.gs_stream.specs.Heads.{Parted, HeadCut, TooLong, Whole, stripped, through_empty_line, cut_at, head_at}
use Rattle.gs_stream.specs.Heads as heads
use Rattle.gs_stream.specs.Requests.{Request, Denied, too_long, by_end, by_body, by_verdict, by_head, requests}
use Rattle.gs_stream.proofs.PartLemmas.{IsParted, through-parts}
use Rattle.gs_stream.proofs.RequestLemmas.{reads-on}
use Rattle.gs_stream.proofs.StaysLemmas.{heads-stay, long-stays}
use Rattle.gs_talk.specs.Plans.{plan_of}
use Rattle.gs_talk.specs.Progress.{Move, Short, Progress, NotStarted, Early, Memory, Mute}
use Rattle.gs_talk.specs.Moves.{progress_after, progress}
use Rattle.gs_talk.specs.Seats.{Deeds}
use Rattle.gs_talk.specs.Replies.{BodyState, Faulty, Unended, Said, IsOwn, Settles, said_so_far, greeting, allow_notice, denial_reply, plain, data_of}
use Rattle.gs_talk.specs.Replies as state
use Rattle.gs_talk.specs.Logs.{Server, Log, AllSuit, AnswersAsk, AnswersDenied, AnswersAll, deeds, deeds_of, texts, stages_in}
use Rattle.gs_session.specs.declared.phases.Phase.{Phase}
use Rattle.gs_session.specs.declared.phases.Phase.TheVariants.{Between, Serving, Over}
use Rattle.gs_session.specs.declared.phases.Work.{Work}
use Rattle.gs_session.specs.declared.phases.Work.TheVariants.{Opening, Skipping, Uploading, Committing, Patching, Failing, Sending}
use Rattle.gs_session.specs.declared.phases.Work.TheVariants as work
use Rattle.gs_session.specs.declared.outcomes.Next.{Next}
use Rattle.gs_session.specs.declared.setups.Setup.{Setup}
use Rattle.gs_session.specs.declared.steps.Step.TheVariants.{Silent, Wait}
use Rattle.gs_session.specs.Trails.{coming, KeepsTrail, WorkStands}
use Rattle.gs_session.specs.Leads.{LeadsTo}
use Rattle.gs_session.specs.Heads.{greeting_of, BeginsOpen, BeginsSkip, AfterHead}
use Rattle.gs_session.specs.Outcomes.{Says, Stops, Replies, RepliesBy, after_reply}
use Rattle.gs_session.specs.Steps.{server_of, rank, Rests}
use Rattle.gs_session.proofs.MoveLemmas.{Closes, answered, none, silent}
use Rattle.gs_session.proofs.ReplyLemmas.{to_next}
use Rattle.gs_session.proofs.ReadLemmas.{greeted_skip}
use Rattle.gs_session.proofs.OpenLemmas.{quiet, unsaid, first_trail, none_of, early_is, over_next}
use Rattle.gs_session.proofs.HeadLemmas.{lead-off, lead-requests}

-- bytes of a head

-- where two bytes are left, no more is dropped, however the text goes on
pub strip-more : (x y : List ℕ) → 2 ≤ length (stripped x) → stripped (x ++ y) ≡ stripped x ++ y
strip-more [] y h = absurd (omega arith)
strip-more (c ∷ []) y h = absurd (elim (eqb c 10) as (λ b. 2 ≤ length (cond b [] (c ∷ [])) → ⊥) [ true ↦ λ k. omega arith | false ↦ λ k. omega arith ] h)
strip-more (c ∷ (d ∷ cs)) y h =
    let x : List ℕ = c ∷ (d ∷ cs) in
    let z : List ℕ = c ∷ (d ∷ (cs ++ y)) in
    elim (eqb c 10) as (λ b. 2 ≤ length (cond b (stripped (d ∷ cs)) (cond (eqb c 13) (cond (eqb d 10) (stripped cs) x) x))
    → cond b (stripped (d ∷ (cs ++ y))) (cond (eqb c 13) (cond (eqb d 10) (stripped (cs ++ y)) z) z) ≡ cond b (stripped (d ∷ cs)) (cond (eqb c 13) (cond (eqb d 10) (stripped cs) x) x) ++ y) [
      | true ↦ λ k. strip-more (d ∷ cs) y k
      | false ↦ elim (eqb c 13) as (λ b. 2 ≤ length (cond b (cond (eqb d 10) (stripped cs) x) x) → cond b (cond (eqb d 10) (stripped (cs ++ y)) z) z ≡ cond b (cond (eqb d 10) (stripped cs) x) x ++ y) [
        | true ↦ elim (eqb d 10) as (λ b. 2 ≤ length (cond b (stripped cs) x) → cond b (stripped (cs ++ y)) z ≡ cond b (stripped cs) x ++ y) [
          | true ↦ λ k. strip-more cs y k
          | false ↦ λ k. refl
        ]
        | false ↦ λ k. refl
      ]
    ] h

-- what is stripped has nothing to be dropped
pub strip-twice : (x : List ℕ) → stripped (stripped x) ≡ stripped x
strip-twice x = ap stripped (sym (append-nil (stripped x))) ∙ lead-off x [] ∙ ap stripped (append-nil x)

sizes_at : (x f head rest : List ℕ) (o : Parted) → length f ≤ length x → IsParted 2 f o → cut_at x o ≡ Whole head rest → (2 ≤ length x) × (length head ≤ length f)
sizes_at x f head rest None few h e = absurd (elim (leb 16384 (length x)) as (λ b. cond b TooLong heads.Open ≡ Whole head rest → ⊥) [ true ↦ λ d. cc | false ↦ λ d. cc ] e)
sizes_at x f head rest (Some p) few h e =
    let same : p.0 ≡ head = cc in (omega (arith, few, h.1, ap length h.0, length-append p.0 p.1), omega (arith, ap length same, ap length h.0, length-append p.0 p.1))

-- a whole head has two bytes at least, and not too many
pub head-sizes : (x head rest : List ℕ) → head_at x ≡ Whole head rest → (2 ≤ length x) × (length head ≤ 16384)
unfolding head_at
head-sizes x head rest e =
    let f : List ℕ = take 16384 x in
    let s = sizes_at x f head rest (through_empty_line f) (omega (arith, length-take 16384 x)) (through-parts f) e in (s.0, omega (arith, s.1, length-take 16384 x))

long_at : (x : List ℕ) (o : Parted) → cut_at x o ≡ TooLong → 16384 ≤ length x
long_at x None e = leb-true 16384 (length x) (elim (leb 16384 (length x)) as (λ b. cond b TooLong heads.Open ≡ TooLong → b ≡ true) [ true ↦ λ d. refl | false ↦ λ d. cc ] e)
long_at x (Some p) e = absurd (cc)

-- one that is too long has too many
pub long-size : (x : List ℕ) → head_at x ≡ TooLong → 16384 ≤ length x
unfolding head_at
long-size x e = long_at x (through_empty_line (take 16384 x)) e

strips : (b y : List ℕ) → stripped b ≡ b → 2 ≤ length b → stripped (b ++ y) ≡ b ++ y
strips b y f few = strip-more b y (omega (arith, few, ap length f)) ∙ ap (λ z. z ++ y) f

-- The requests from a whole head on are those of its verdict and of what stands after it.
pub whole-requests : (base b head rest y : List ℕ) → stripped b ≡ b → head_at b ≡ Whole head rest → requests base (b ++ y) ≡ by_verdict (requests base) (head_verdict base head) (rest ++ y)
whole-requests base b head rest y f g =
    reads-on base (b ++ y) ∙ ap (λ (z : List ℕ). by_head base (requests base) (head_at z)) (strips b y f (head-sizes b head rest g).0)
    ∙ ap (λ (c : HeadCut). by_head base (requests base) c) (heads-stay b y head rest g)

-- A head that is too long is denied, and no request follows.
pub long-requests : (base b y : List ℕ) → stripped b ≡ b → head_at b ≡ TooLong → requests base (b ++ y) ≡ Denied too_long ∷ []
long-requests base b y f g =
    reads-on base (b ++ y) ∙ ap (λ (z : List ℕ). by_head base (requests base) (head_at z)) (strips b y f (omega (arith, long-size b g)))
    ∙ ap (λ (c : HeadCut). by_head base (requests base) c) (long-stays b y g)

-- what stands before a head was dropped
pub bare_by : (old read new : List ℕ) (k : ℕ) → read ≡ old → drop k read ≡ stripped read → new ≡ drop k old → new ≡ stripped old
bare_by old read new k f g q = q ∙ subst (λ (b : List ℕ). drop k b ≡ stripped b) f g

-- What stands before a head is dropped.
pub lead_dropped : {s : Server} {e : Bool} (b x : List ℕ) (h : Deeds) (said : List ℕ) → LeadsTo s e Between b x h said → LeadsTo s e Between (stripped b) x h said
lead_dropped {s} b x h said l = silent Between Between b (stripped b) x h said l l.trail (λ y. lead-requests s.base b y) l.keeps (λ i. i)

-- a head that is denied

-- a denied head is answered by these moves, which did nothing, and this text
denied_by : {s : Server} {e : Bool} (d : Denial) (q : Phase) (ms : List Move) (u : List ℕ) (goes : Bool) (b c x : List ℕ) (h : Deeds) (said : List ℕ) (l : LeadsTo s e Between b x h said)
    → ((y : List ℕ) → requests s.base (b ++ y) ≡ Denied d ∷ cond d.closes [] (requests s.base (c ++ y))) → AnswersDenied d ms (u, goes) → deeds_of ms ≡ []
    → ((y : List ℕ) → coming s.base q none (c ++ y) ≡ cond goes (cond d.closes [] (requests s.base (c ++ y))) []) → KeepsTrail s q none [] [] → Closes q goes
    → LeadsTo s e q c x h (said ++ u)
denied_by {s} {e} d q ms u goes b c x h said l f told idle g k j =
    subst (λ (z : Deeds). LeadsTo s e q c x z (said ++ u)) (ap (λ (z : Deeds). h ++ z) idle ∙ append-nil h)
    (answered Between q b c x h said l ms u goes none
    (λ y i more rest w. subst (λ (rs : List Request). AnswersAll s e ((record { moves = l.now ++ ms; text = l.text ++ u; goes = goes }) ∷ more) rs rest) (sym (f y)) (
      subst (λ (z : List Move). AnswersDenied d (z ++ ms) (l.text ++ u, goes)) (sym l.keeps.0) (subst (λ (z : List ℕ). AnswersDenied d ms (z ++ u, goes)) (sym l.keeps.1) told),
      subst (λ (rs : List Request). AnswersAll s e more rs rest) (g y) w,
    ))
    k l.shut j)

-- where there was no memory for the reply, nothing is said
denied_mute : {s : Server} {e : Bool} (d : Denial) (b c x : List ℕ) (h : Deeds) (said : List ℕ) (l : LeadsTo s e Between b x h said)
    → ((y : List ℕ) → requests s.base (b ++ y) ≡ Denied d ∷ cond d.closes [] (requests s.base (c ++ y))) → (n : Next) → Stops n → LeadsTo s e n.phase c x h (said ++ n.said.items)
denied_mute d b c x h said l f n o = to_next n Over [] c x h said o (denied_by d Over (Short ∷ []) [] false b c x h said l f (inr refl) refl (λ y. refl) (refl, refl) refl)

denied_says : {s : Server} {e : Bool} (d : Denial) (v : Bool) (b c x : List ℕ) (h : Deeds) (said : List ℕ) (l : LeadsTo s e Between b x h said)
    → ((y : List ℕ) → requests s.base (b ++ y) ≡ Denied d ∷ cond d.closes [] (requests s.base (c ++ y))) → d.closes ≡ v
    → (n : Next) → Says n (after_reply v) (reply_text d.status (allow_notice d.allow) None v) → LeadsTo s e n.phase c x h (said ++ n.said.items)
denied_says d true b c x h said l f is n o =
    let u : List ℕ = reply_text d.status (allow_notice d.allow) None true in
    to_next n Over u c x h said o (denied_by d Over [] u false b c x h said l f (ap (λ z. (reply_text d.status (allow_notice d.allow) None z, not z)) (sym is)) refl (λ y. refl) (refl, refl) refl)
denied_says {s} d false b c x h said l f is n o =
    let u : List ℕ = reply_text d.status (allow_notice d.allow) None false in
    to_next n Between u c x h said o
    (denied_by d Between [] u true b c x h said l f (ap (λ z. (reply_text d.status (allow_notice d.allow) None z, not z)) (sym is)) refl
    (λ y. ap (λ z. cond z [] (requests s.base (c ++ y))) (sym is)) (refl, refl) refl)

-- A head is denied.
pub denied_leads : {s : Server} {e : Bool} (d : Denial) (b c x : List ℕ) (h : Deeds) (said : List ℕ) (l : LeadsTo s e Between b x h said)
    → ((y : List ℕ) → requests s.base (b ++ y) ≡ Denied d ∷ cond d.closes [] (requests s.base (c ++ y)))
    → (n : Next) → RepliesBy n d.status (allow_notice d.allow) None d.closes → LeadsTo s e n.phase c x h (said ++ n.said.items)
denied_leads d b c x h said l f n (inl o) = denied_says d d.closes b c x h said l f refl n o
denied_leads d b c x h said l f n (inr o) = denied_mute d b c x h said l f n o

-- There was no memory to read a head that is denied.
pub denied_short : {s : Server} {e : Bool} (d : Denial) (b c x : List ℕ) (h : Deeds) (said : List ℕ) (l : LeadsTo s e Between b x h said)
    → ((y : List ℕ) → requests s.base (b ++ y) ≡ Denied d ∷ cond d.closes [] (requests s.base (c ++ y))) → (n : Next) → Replies n 503 true → LeadsTo s e n.phase c x h (said ++ n.said.items)
denied_short d b c x h said l f n (inl o) =
    to_next n Over (reply_text 503 Nothing None true) c x h said o
    (denied_by d Over (Short ∷ []) (reply_text 503 Nothing None true) false b c x h said l f (inl refl) refl (λ y. refl) (refl, refl) refl)
denied_short d b c x h said l f n (inr o) = denied_mute d b c x h said l f n o

-- a head that asks

-- these requests come from the body of what is asked for on
abbrev pub AsksOn : Server → Asked → List ℕ → List ℕ → Type 0
AsksOn s a b c = (y : List ℕ) → requests s.base (b ++ y) ≡ by_body (requests s.base) a (body_at (limit_of a.method) a.framing (c ++ y))

-- it is served, and nothing was done yet
served : {s : Server} {e : Bool} (a : Asked) (k : Work) (u b c x : List ℕ) (h : Deeds) (said : List ℕ) (l : LeadsTo s e Between b x h said)
    → AsksOn s a b c → u ≡ said_so_far a NotStarted → WorkStands s.base a k (first_trail a NotStarted) 0 → LeadsTo s e (Serving a k) c x h (said ++ u)
served {s} {e} a k u b c x h said l f g j = record {
  trail = first_trail a NotStarted;
  log = l.log;
  now = [];
  text = u;
  same = λ y i more rest z. l.same y i more rest (subst (λ (rs : List Request). AnswersAll s e more rs rest) (sym (f y)) z);
  done = l.done ∙ ap (λ (z : List Move). deeds l.log ++ deeds_of z) l.keeps.0;
  written = ap (λ z. z ++ u) (l.written ∙ ap (λ z. texts l.log ++ z) l.keeps.1 ∙ append-nil (texts l.log));
  keeps = record { suits = tt; came = refl; said = g; few = λ z. omega arith; stands = j };
  shut = l.shut;
}

-- it is to be opened
pub begins_open : {s : Server} {e : Bool} (a : Asked) (b c x : List ℕ) (h : Deeds) (said : List ℕ) (l : LeadsTo s e Between b x h said)
    → AsksOn s a b c → (n : Next) → BeginsOpen a n → LeadsTo s e n.phase c x h (said ++ n.said.items)
begins_open a b c x h said l f n o =
    to_next n (Serving a Opening) [] c x h said o.1 (served a Opening [] b c x h said l f (sym (unsaid a NotStarted refl o.0)) (refl, o.0, λ z. refl, refl))

-- or its body is to be dropped
pub begins_skip : {s : Server} {e : Bool} (a : Asked) (b c x : List ℕ) (h : Deeds) (said : List ℕ) (l : LeadsTo s e Between b x h said)
    → AsksOn s a b c → (n : Next) → BeginsSkip a n → LeadsTo s e n.phase c x h (said ++ n.said.items)
begins_skip a b c x h said l f n o =
    to_next n (Serving a (Skipping o.1.0)) (greeting_of a) c x h said o.1.1
    (served a (Skipping o.1.0) (greeting_of a) b c x h said l f (sym (greeted_skip a NotStarted refl o.0)) ([], refl, o.0, λ z. sym (o.1.2 z) ∙ none_of (cut_of o.1.0 z)))

-- whatever its body is, these moves answer it
answers_early : (s : Server) (a : Asked) (o : BodyState) (ms : List Move) (c : Progress) (v : List ℕ) → progress a NotStarted ms ≡ c → AllSuit s.piece (plan_of a) ms → stages_in ms ≡ 0
    → IsOwn s.base a o c → Settles s.base a o c (v, false) → greeting a c ≡ [] → AnswersAsk s a o ms (v, false)
answers_early s a o ms c v is suit few own set quiet = (
  (suit, subst (λ (d : Progress). IsOwn s.base a o d) (sym is) own, omega (arith, few)),
  (
    (v, false),
    subst (λ (d : Progress). Settles s.base a o d (v, false)) (sym is) set,
    inl (ap (λ (z : List ℕ). (z ++ v, false)) (sym quiet) ∙ ap (λ (d : Progress). (greeting a d ++ v, false)) (sym is)),
  ),
)

-- and the connection ends
unheard : {s : Server} {e : Bool} (a : Asked) (ms : List Move) (v b c x : List ℕ) (h : Deeds) (said : List ℕ) (l : LeadsTo s e Between b x h said)
    → AsksOn s a b c → ((o : BodyState) → AnswersAsk s a o ms (v, false)) → deeds_of ms ≡ [] → LeadsTo s e Over c x h (said ++ v)
unheard {s} {e} a ms v b c x h said l f by idle =
    subst (λ (z : Deeds). LeadsTo s e Over c x z (said ++ v)) (ap (λ (z : Deeds). h ++ z) idle ∙ append-nil h)
    (answered Between Over b c x h said l ms v false none
    (λ y i more rest w. subst (λ (rs : List Request). AnswersAll s e ((record { moves = l.now ++ ms; text = l.text ++ v; goes = false }) ∷ more) rs rest) (sym (f y))
    (at_end (body_at (limit_of a.method) a.framing (c ++ y)).bytes (body_at (limit_of a.method) a.framing (c ++ y)).end more rest w))
    (refl, refl) l.shut refl)
  where
    so : (o : BodyState) → AnswersAsk s a o (l.now ++ ms) (l.text ++ v, false)
    so o = subst (λ (z : List Move). AnswersAsk s a o (z ++ ms) (l.text ++ v, false)) (sym l.keeps.0) (subst (λ (z : List ℕ). AnswersAsk s a o ms (z ++ v, false)) (sym l.keeps.1) (by o))

    at_end : (d : List ℕ) (m : End) (more : Log) (rest : List Request) → AnswersAll s e more [] rest
        → AnswersAll s e ((record { moves = l.now ++ ms; text = l.text ++ v; goes = false }) ∷ more) (by_end (requests s.base) a d m) rest
    at_end d cut.Open more rest w = (so (Unended d e), w)
    at_end d (cut.Faulty st) more rest w = (so (Faulty d st), w)
    at_end d (cut.Whole z) more rest w = (so (state.Whole d), w)

-- There was no memory for what is asked for.
pub asked_short : {s : Server} {e : Bool} (a : Asked) (b c x : List ℕ) (h : Deeds) (said : List ℕ) (l : LeadsTo s e Between b x h said)
    → AsksOn s a b c → (n : Next) → Replies n 503 true → LeadsTo s e n.phase c x h (said ++ n.said.items)
asked_short {s} a b c x h said l f n (inl o) =
    to_next n Over (reply_text 503 Nothing None true) c x h said o
    (unheard a (Short ∷ []) (reply_text 503 Nothing None true) b c x h said l f
    (λ o. answers_early s a o (Short ∷ []) (Early Memory) (reply_text 503 Nothing None true) (early_is a (plan_of a)) tt refl tt refl (quiet a.awaits_continue)) refl)
asked_short {s} a b c x h said l f n (inr o) =
    to_next n Over [] c x h said o
    (unheard a (Short ∷ Short ∷ []) [] b c x h said l f
    (λ o. answers_early s a o (Short ∷ Short ∷ []) (Mute (Early Memory)) [] (ap (λ (d : Progress). progress_after a d Short) (early_is a (plan_of a))) tt refl tt (((reply_text 503 Nothing None true, false), refl), refl)
    (quiet a.awaits_continue)) refl)

-- What a verdict leads to.
pub head_leads : {s : Server} {e : Bool} (v : Verdict) (b c x : List ℕ) (h : Deeds) (said : List ℕ) (l : LeadsTo s e Between b x h said)
    → ((y : List ℕ) → requests s.base (b ++ y) ≡ by_verdict (requests s.base) v (c ++ y)) → (n : Next) → AfterHead v n → LeadsTo s e n.phase c x h (said ++ n.said.items)
head_leads (Deny d) b c x h said l f n (inl o) = denied_leads d b c x h said l f n o
head_leads (Deny d) b c x h said l f n (inr o) = denied_short d b c x h said l f n o
head_leads (Ask a) b c x h said l f n (inl (inl o)) = begins_open a b c x h said l f n o
head_leads (Ask a) b c x h said l f n (inl (inr o)) = begins_skip a b c x h said l f n o
head_leads (Ask a) b c x h said l f n (inr o) = asked_short a b c x h said l f n o

-- effort

-- a phase has little left to be done without an event, beside its bytes
pub rank-small : (p : Phase) → rank p ≤ 2
rank-small Over = omega arith
rank-small Between = omega arith
rank-small (Serving a Opening) = omega arith
rank-small (Serving a (Skipping t)) = omega arith
rank-small (Serving a (Uploading k t)) = omega arith
rank-small (Serving a Committing) = omega arith
rank-small (Serving a (Patching r v t)) = omega arith
rank-small (Serving a (Failing w)) = omega arith
rank-small (Serving a Sending) = omega arith
rank-small (Serving a work.Cutting) = omega arith

-- The next head has not come whole.
pub waits_between : (setup : Setup) (e : Bool) (old new : List ℕ) → new ≡ stripped old → heads.Open ≡ head_at new → Rests setup e Between old (Wait Between) new
waits_between setup e old new f g = (
  ap head_at (ap stripped f ∙ strip-twice old ∙ sym f) ∙ sym g,
  λ x h said l. subst (λ (b : List ℕ). LeadsTo (server_of setup) e Between b x h said) (sym f) (lead_dropped old x h said l),
)

fewer : (old new : List ℕ) (n : ℕ) → new ≡ drop n old → length new ≤ length old
fewer old new n f = omega (arith, ap length f, length-drop n old)

-- It is too long.
pub denies_long : (setup : Setup) (e : Bool) (old new : List ℕ) (k : ℕ) (n : Next) → new ≡ drop k old → new ≡ stripped old → TooLong ≡ head_at new → Replies n 431 true → Rests setup e Between old (Silent n) new
denies_long setup e old new k n q f g o =
    let bare : stripped new ≡ new = ap stripped f ∙ strip-twice old ∙ sym f in (
      omega (arith, fewer old new k q, ap rank (over_next n (reply_text 431 Nothing None true) o)),
      λ x h said l. denied_leads too_long new new x h said (subst (λ (b : List ℕ). LeadsTo (server_of setup) e Between b x h said) (sym f) (lead_dropped old x h said l))
          (λ y. long-requests setup.site new y bare (sym g)) n o,
    )

-- It is whole, and taken.
pub takes_head : (setup : Setup) (e : Bool) (old b new : List ℕ) (k m : ℕ) (n : Next) → b ≡ drop k old → b ≡ stripped old → Whole (take m b) (drop m b) ≡ head_at b → m ≤ length b → 0 < m → new ≡ drop m b
    → AfterHead (head_verdict setup.site (take m b)) n → Rests setup e Between old (Silent n) new
takes_head setup e old b new k m n q f g within some w o =
    let bare : stripped b ≡ b = ap stripped f ∙ strip-twice old ∙ sym f in (
      omega (arith, fewer old b k q, ap length w, length-drop m b, within, some, rank-small n.phase),
      λ x h said l. subst (λ (z : List ℕ). LeadsTo (server_of setup) e n.phase z x h (said ++ n.said.items)) (sym w)
          (head_leads (head_verdict setup.site (take m b)) b (drop m b) x h said (subst (λ (z : List ℕ). LeadsTo (server_of setup) e Between z x h said) (sym f) (lead_dropped old x h said l))
          (λ y. whole-requests setup.site b (take m b) (drop m b) y bare (sym g)) n o),
    )
