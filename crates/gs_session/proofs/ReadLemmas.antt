-- The steps of a removal, a look and a read.
use Rattle.std.proofs.Common.{◌≡◌, ◌⊎◌, inl, inr, ◌+◌, ◌≤◌, ◌==◌, arith, ℕ, Bool, true, false, cond, not, List, [], ◌∷◌, ◌++◌, length, refl, sym, ap, subst, ◌∙◌, append-nil, append_assoc, Option, Some, None}
use Rattle.gs_model.specs.declared.refusals.Refusal.TheVariants as why
use Rattle.gs_event.specs.declared.events.Action.TheVariants as act
use Rattle.gs_event.specs.declared.events.Scope.{Scope}
use Rattle.gs_event.specs.declared.answers.Answer.{Answer}
use Rattle.gs_event.specs.declared.answers.Answer.TheVariants.{Status, Pinned, Lines, Refused}
use Rattle.gs_term.specs.declared.names.Target.{Target}
use Rattle.gs_transfer.specs.Cuts as cut
use Rattle.gs_transfer.specs.declared.places.Transfer.{Transfer}
use Rattle.gs_verdict.specs.declared.verdicts.Asked.{Asked}
use Rattle.gs_reply.specs.Notices.{Nothing}
use Rattle.gs_reply.specs.Replies.{reply_text, lines_head, chunk, continue_text}
use Rattle.gs_talk.specs.Bodies.{refusal_at}
use Rattle.gs_talk.specs.Plans.{Plan, Deletes, Looks, Reads, opens, plan_of}
use Rattle.gs_talk.specs.Progress.{Move, Did, Short, Progress, NotStarted, Late, Numbers, Erased, Looked, Missing, Streaming, CancelDue, Cut, Misanswered, lines_out}
use Rattle.gs_talk.specs.Moves.{first, progress_after, progress, last_if, at_piece}
use Rattle.gs_talk.specs.Seats.{Deeds}
use Rattle.gs_talk.specs.Replies.{Whole, Said, IsOwn, Settles, said_so_far, greeting}
use Rattle.gs_talk.specs.Logs.{Server, AllSuit, deeds_of, stages_in}
use Rattle.gs_session.specs.declared.phases.Phase.{Phase}
use Rattle.gs_session.specs.declared.phases.Phase.TheVariants.{Serving, Over}
use Rattle.gs_session.specs.declared.phases.Work.{Work}
use Rattle.gs_session.specs.declared.phases.Work.TheVariants.{Skipping, Sending}
use Rattle.gs_session.specs.declared.phases.Work.TheVariants as work
use Rattle.gs_session.specs.declared.outcomes.Next.{Next}
use Rattle.gs_session.specs.Trails.{Trail, WorkStands}
use Rattle.gs_session.specs.Leads.{LeadsTo}
use Rattle.gs_session.specs.Outcomes.{Says, Stops, RepliesCounted, RepliesFound, BeginsRead, after_reply, AfterDelete, AfterLook, AfterPin, AfterPiece}
use Rattle.gs_session.proofs.MoveLemmas.{moved, answers}
use Rattle.gs_session.proofs.ReplyLemmas.{replies, broke, to_next}

-- the body of the request that is served is whole, and is this
abbrev pub IsWholeAt : {s : Server} {e : Bool} {p : Phase} {b x : List ℕ} {h : Deeds} {said : List ℕ} → LeadsTo s e p b x h said → List ℕ → Type 0
IsWholeAt {b = b} l body = (y : List ℕ) → l.trail.cut (b ++ y) ≡ record { bytes = body; end = cut.Whole (b ++ y) }

-- no stage more, after which there are few
pub few_still : {s : Server} {e : Bool} (a : Asked) (k : Work) (b x : List ℕ) (h : Deeds) (said : List ℕ) (l : LeadsTo s e (Serving a k) b x h said) (body : List ℕ) (ms : List Move)
    → IsWholeAt l body → stages_in ms ≡ 0 → stages_in l.now + stages_in ms ≤ length body + 1
few_still a k b x h said l body ms whole none = omega (arith, none, l.keeps.few (b ++ []), ap (λ (c : cut.BodyCut). length c.bytes) (whole []))

-- an event that stages nothing leaves their number
pub no_more : {s : Server} {e : Bool} (a : Asked) (k : Work) (b x : List ℕ) (h : Deeds) (said : List ℕ) (l : LeadsTo s e (Serving a k) b x h said) (z : List ℕ) → stages_in l.now + 0 ≤ length (l.trail.cut z).bytes + 1
no_more a k b x h said l z = omega (arith, l.keeps.few z)

-- while nothing was done for a request whose body is dropped, no more was said than `100 Continue`, if that is awaited
pub greeted_skip : (a : Asked) (before : Progress) → before ≡ NotStarted → opens (plan_of a) ≡ false → said_so_far a before ≡ cond a.awaits_continue continue_text []
greeted_skip a before at none =
    ap (λ (c : Progress). said_so_far a c) at ∙ append-nil (greeting a NotStarted) ∙ ap (λ v. cond a.awaits_continue (cond (not v) continue_text []) []) none

-- after a first move the progress is what the move leads to
pub first_is : (a : Asked) (before : Progress) (p : Plan) (m : Move) → before ≡ NotStarted → plan_of a ≡ p → progress_after a before m ≡ first a p m
first_is a before p m at is = ap (λ (c : Progress). progress_after a c m) at ∙ ap (λ (q : Plan). first a q m) is

pub delete_leads : {s : Server} {e : Bool} (a : Asked) (transfer : Transfer) (t : Target) (since : Option ℕ) (answer : Answer) (b x : List ℕ) (h : Deeds) (said body : List ℕ) (l : LeadsTo s e (Serving a (Skipping transfer)) b x h said)
    → plan_of a ≡ Deletes t since → IsWholeAt l body → (n : Next) → AfterDelete a answer n → LeadsTo s e n.phase b x (h ++ (act.Delete t since, answer) ∷ []) (said ++ n.said.items)
delete_leads a transfer t since (Status st name number) b x h said body l is whole n o =
    replies a (Skipping transfer) (Did (act.Delete t since) (Status st name number) ∷ []) (Erased st number) body (reply_text st Nothing (Some number) a.closes) a.closes b x h said l whole
    (few_still a (Skipping transfer) b x h said l body (Did (act.Delete t since) (Status st name number) ∷ []) whole refl)
    (record {
      suits = (is, tt);
      came = first_is a l.trail.progress (Deletes t since) (Did (act.Delete t since) (Status st name number)) l.keeps.stands.1 is;
      mute = refl;
      own = tt;
      settled = refl;
      greeted = greeted_skip a l.trail.progress l.keeps.stands.1 l.keeps.stands.2;
    }) n o
delete_leads {s} a transfer t since (Refused why.LastNumber) b x h said body l is whole n o =
    replies a (Skipping transfer) (Did (act.Delete t since) (Refused why.LastNumber) ∷ []) (Late Numbers) body (reply_text 507 Nothing None a.closes) a.closes b x h said l whole
    (few_still a (Skipping transfer) b x h said l body (Did (act.Delete t since) (Refused why.LastNumber) ∷ []) whole refl)
    (record {
      suits = (is, tt);
      came = first_is a l.trail.progress (Deletes t since) (Did (act.Delete t since) (Refused why.LastNumber)) l.keeps.stands.1 is;
      mute = refl;
      own = tt;
      settled = ((0, ap (λ (p : Plan). refusal_at s.base a p 0 body) is), refl);
      greeted = greeted_skip a l.trail.progress l.keeps.stands.1 l.keeps.stands.2;
    }) n o
delete_leads a transfer t since answer b x h said body l is whole n o =
    broke a (Skipping transfer) (Did (act.Delete t since) answer) NotStarted b b x h said l (is, tt) l.keeps.stands.1 (first_is a NotStarted (Deletes t since) (Did (act.Delete t since) answer) refl is) (λ o. tt) (no_more a (Skipping transfer) b x h said l) n o

-- a look: the head of a read, or a reply that there is no graph

look_said : (n : Next) (a : Asked) (st number : ℕ) (v : Bool) → cond v (RepliesFound n a number) (RepliesCounted n st number a.closes)
    → Says n (after_reply a.closes) (cond v (lines_head a.reply number a.closes) (reply_text st Nothing (Some number) a.closes)) ⊎ Stops n
look_said n a st number true o = o
look_said n a st number false o = o

look_settled : (a : Asked) (st number : ℕ) (v : Bool)
    → ◌≡◌ {A = Said} (cond v (lines_head a.reply number a.closes) (reply_text st Nothing (Some number) a.closes), not a.closes)
    (cond v (lines_head a.reply number a.closes, not a.closes) (reply_text st Nothing (Some number) a.closes, not a.closes))
look_settled a st number true = refl
look_settled a st number false = refl

pub look_leads : {s : Server} {e : Bool} (a : Asked) (transfer : Transfer) (t : Scope) (answer : Answer) (b x : List ℕ) (h : Deeds) (said body : List ℕ) (l : LeadsTo s e (Serving a (Skipping transfer)) b x h said)
    → plan_of a ≡ Looks t → IsWholeAt l body → (n : Next) → AfterLook a answer n → LeadsTo s e n.phase b x (h ++ (act.Head t, answer) ∷ []) (said ++ n.said.items)
look_leads a transfer t (Status st name number) b x h said body l is whole n o =
    replies a (Skipping transfer) (Did (act.Head t) (Status st name number) ∷ []) (Looked st number) body (cond (st == 200) (lines_head a.reply number a.closes) (reply_text st Nothing (Some number) a.closes)) a.closes b x h said l whole
    (few_still a (Skipping transfer) b x h said l body (Did (act.Head t) (Status st name number) ∷ []) whole refl)
    (record {
      suits = (is, tt);
      came = first_is a l.trail.progress (Looks t) (Did (act.Head t) (Status st name number)) l.keeps.stands.1 is;
      mute = refl;
      own = tt;
      settled = look_settled a st number (st == 200);
      greeted = greeted_skip a l.trail.progress l.keeps.stands.1 l.keeps.stands.2;
    }) n (look_said n a st number (st == 200) o)
look_leads a transfer t answer b x h said body l is whole n o =
    broke a (Skipping transfer) (Did (act.Head t) answer) NotStarted b b x h said l (is, tt) l.keeps.stands.1 (first_is a NotStarted (Looks t) (Did (act.Head t) answer) refl is) (λ o. tt) (no_more a (Skipping transfer) b x h said l) n o

-- a read

-- the trail of a request whose body is whole
abbrev pub whole_trail : List ℕ → Progress → Trail
whole_trail body c = record { cut = λ z. record { bytes = body; end = cut.Whole z }; progress = c }

-- moves are made and a text is said, and a request whose body is whole is served on
reads_at : {s : Server} {e : Bool} (a : Asked) (k k2 : Work) (ms : List Move) (c : Progress) (u b x : List ℕ) (h : Deeds) (said body : List ℕ) (l : LeadsTo s e (Serving a k) b x h said)
    → IsWholeAt l body → AllSuit s.piece (plan_of a) ms → progress a l.trail.progress ms ≡ c → said_so_far a l.trail.progress ++ u ≡ said_so_far a c → stages_in ms ≡ 0
    → WorkStands s.base a k2 (whole_trail body c) (stages_in l.now + stages_in ms) → LeadsTo s e (Serving a k2) b x (h ++ deeds_of ms) (said ++ u)
reads_at a k k2 ms c u b x h said body l whole suit f g none j =
    moved a k k2 ms u b b x h said l (whole_trail body c) (λ y. sym (whole y)) suit f g (λ z. few_still a k b x h said l body ms whole none) j

-- and this is what comes next
pub reads_on : {s : Server} {e : Bool} (a : Asked) (k k2 : Work) (ms : List Move) (c : Progress) (u b x : List ℕ) (h : Deeds) (said body : List ℕ) (l : LeadsTo s e (Serving a k) b x h said)
    → IsWholeAt l body → AllSuit s.piece (plan_of a) ms → progress a l.trail.progress ms ≡ c → said_so_far a l.trail.progress ++ u ≡ said_so_far a c → stages_in ms ≡ 0
    → WorkStands s.base a k2 (whole_trail body c) (stages_in l.now + stages_in ms) → (n : Next) → Says n (Serving a k2) u → LeadsTo s e n.phase b x (h ++ deeds_of ms) (said ++ n.said.items)
reads_on a k k2 ms c u b x h said body l whole suit f g none j n y =
    to_next n (Serving a k2) u b x (h ++ deeds_of ms) said y (reads_at a k k2 ms c u b x h said body l whole suit f g none j)

begun : {s : Server} {e : Bool} (a : Asked) (transfer : Transfer) (t : Scope) (st number : ℕ) (b x : List ℕ) (h : Deeds) (said body : List ℕ) (l : LeadsTo s e (Serving a (Skipping transfer)) b x h said)
    → plan_of a ≡ Reads t → IsWholeAt l body → progress_after a l.trail.progress (Did (act.Pin t) (Pinned st number)) ≡ Streaming [] (lines_head a.reply number a.closes) false → (n : Next) → BeginsRead n a number
    → LeadsTo s e n.phase b x (h ++ (act.Pin t, Pinned st number) ∷ []) (said ++ n.said.items)
begun a transfer t st number b x h said body l is whole f n (inl y) =
    reads_on a (Skipping transfer) Sending (Did (act.Pin t) (Pinned st number) ∷ []) (Streaming [] (lines_head a.reply number a.closes) false) (lines_head a.reply number a.closes) b x h said body l whole (is, tt) f
    (ap (λ z. z ++ lines_head a.reply number a.closes) (greeted_skip a l.trail.progress l.keeps.stands.1 l.keeps.stands.2)) refl ([], lines_head a.reply number a.closes, body, refl, λ z. refl) n y
begun a transfer t st number b x h said body l is whole f n (inr y) =
    reads_on a (Skipping transfer) work.Cutting (Did (act.Pin t) (Pinned st number) ∷ Short ∷ []) (CancelDue []) [] b x h said body l whole (is, tt) (ap (λ (c : Progress). progress_after a c Short) f)
    (ap (λ z. z ++ []) (greeted_skip a l.trail.progress l.keeps.stands.1 l.keeps.stands.2)) refl ([], body, refl, λ z. refl) n y

pinned : {s : Server} {e : Bool} (a : Asked) (transfer : Transfer) (t : Scope) (st number : ℕ) (b x : List ℕ) (h : Deeds) (said body : List ℕ) (l : LeadsTo s e (Serving a (Skipping transfer)) b x h said)
    → plan_of a ≡ Reads t → IsWholeAt l body → (v : Bool) → progress_after a l.trail.progress (Did (act.Pin t) (Pinned st number)) ≡ cond v (Streaming [] (lines_head a.reply number a.closes) false) (Missing st number)
    → (n : Next) → cond v (BeginsRead n a number) (RepliesCounted n st number a.closes) → LeadsTo s e n.phase b x (h ++ (act.Pin t, Pinned st number) ∷ []) (said ++ n.said.items)
pinned a transfer t st number b x h said body l is whole true f n o = begun a transfer t st number b x h said body l is whole f n o
pinned a transfer t st number b x h said body l is whole false f n o =
    replies a (Skipping transfer) (Did (act.Pin t) (Pinned st number) ∷ []) (Missing st number) body (reply_text st Nothing (Some number) a.closes) a.closes b x h said l whole
    (few_still a (Skipping transfer) b x h said l body (Did (act.Pin t) (Pinned st number) ∷ []) whole refl)
    (record { suits = (is, tt); came = f; mute = refl; own = tt; settled = refl; greeted = greeted_skip a l.trail.progress l.keeps.stands.1 l.keeps.stands.2 }) n o

pub pin_leads : {s : Server} {e : Bool} (a : Asked) (transfer : Transfer) (t : Scope) (answer : Answer) (b x : List ℕ) (h : Deeds) (said body : List ℕ) (l : LeadsTo s e (Serving a (Skipping transfer)) b x h said)
    → plan_of a ≡ Reads t → IsWholeAt l body → (n : Next) → AfterPin a answer n → LeadsTo s e n.phase b x (h ++ (act.Pin t, answer) ∷ []) (said ++ n.said.items)
pin_leads a transfer t (Pinned st number) b x h said body l is whole n o =
    pinned a transfer t st number b x h said body l is whole (st == 200) (first_is a l.trail.progress (Reads t) (Did (act.Pin t) (Pinned st number)) l.keeps.stands.1 is) n o
pin_leads a transfer t answer b x h said body l is whole n o =
    broke a (Skipping transfer) (Did (act.Pin t) answer) NotStarted b b x h said l (is, tt) l.keeps.stands.1 (first_is a NotStarted (Reads t) (Did (act.Pin t) answer) refl is) (λ o. tt) (no_more a (Skipping transfer) b x h said l) n o

-- A request whose body is whole is answered by what was said, and the connection ends.
stops_at : {s : Server} {e : Bool} (a : Asked) (k : Work) (ms : List Move) (c : Progress) (b x : List ℕ) (h : Deeds) (said body : List ℕ) (l : LeadsTo s e (Serving a k) b x h said)
    → IsWholeAt l body → AllSuit s.piece (plan_of a) ms → progress a l.trail.progress ms ≡ c → stages_in ms ≡ 0 → IsOwn s.base a (Whole body) c → Settles s.base a (Whole body) c (lines_out c, false)
    → said_so_far a l.trail.progress ≡ said_so_far a c → LeadsTo s e Over b x (h ++ deeds_of ms) (said ++ [])
stops_at {s} a k ms c b x h said body l whole suit f none own set g =
    answers a k ms body true (lines_out c) [] b x h said l whole suit (subst (λ (d : Progress). IsOwn s.base a (Whole body) d) (sym f) own) (few_still a k b x h said l body ms whole none)
    (subst (λ (d : Progress). Settles s.base a (Whole body) d (lines_out c, false)) (sym f) set)
    (append-nil (said_so_far a l.trail.progress) ∙ g ∙ ap (λ (d : Progress). greeting a d ++ lines_out c) (sym f))

-- and this is what comes next
pub stops_whole : {s : Server} {e : Bool} (a : Asked) (k : Work) (ms : List Move) (c : Progress) (b x : List ℕ) (h : Deeds) (said body : List ℕ) (l : LeadsTo s e (Serving a k) b x h said)
    → IsWholeAt l body → AllSuit s.piece (plan_of a) ms → progress a l.trail.progress ms ≡ c → stages_in ms ≡ 0 → IsOwn s.base a (Whole body) c → Settles s.base a (Whole body) c (lines_out c, false)
    → said_so_far a l.trail.progress ≡ said_so_far a c → (n : Next) → Stops n → LeadsTo s e n.phase b x (h ++ deeds_of ms) (said ++ n.said.items)
stops_whole {s} a k ms c b x h said body l whole suit f none own set g n y =
    to_next n Over [] b x (h ++ deeds_of ms) said y (stops_at a k ms c b x h said body l whole suit f none own set g)

-- what was said of a read goes on
joins : (a : Asked) (before : Progress) (out due u : List ℕ) → before ≡ Streaming out due false → said_so_far a before ++ u ≡ greeting a (Streaming out due false) ++ ((out ++ due) ++ u)
joins a before out due u at = ap (λ (c : Progress). said_so_far a c ++ u) at ∙ append_assoc (greeting a (Streaming out due false)) (out ++ due) u

-- what the progress of a read is after a move
held_is : (a : Asked) (before c : Progress) (out due : List ℕ) (m : Move) → before ≡ Streaming out due false → progress_after a (Streaming out due false) m ≡ c → progress_after a before m ≡ c
held_is a before c out due m at f = ap (λ (d : Progress). progress_after a d m) at ∙ f

-- what was due is said before a text
after_due : {s : Server} {e : Bool} (n : Next) (p : Phase) (due u b x : List ℕ) (h : Deeds) (w : List ℕ) → Says n p (due ++ u) → LeadsTo s e p b x h ((w ++ due) ++ u) → LeadsTo s e n.phase b x h (w ++ n.said.items)
after_due {s} {e} n p due u b x h w k l = to_next n p (due ++ u) b x h w k (subst (λ z. LeadsTo s e p b x h z) (append_assoc w due u) l)

-- or before nothing
due_alone : (n : Next) (p : Phase) (due : List ℕ) → Says n p due → Says n p (due ++ [])
due_alone n p due k = (k.0, k.1 ∙ sym (append-nil due))

pub piece_leads : {s : Server} {e : Bool} (a : Asked) (answer : Answer) (b x : List ℕ) (h : Deeds) (w held : List ℕ) (l : LeadsTo s e (Serving a Sending) b x h (w ++ held))
    → (n : Next) → AfterPiece a held answer n → LeadsTo s e n.phase b x (h ++ (act.Piece s.piece, answer) ∷ []) (w ++ n.said.items)
piece_leads {s} {e} a answer b x h w held l n o = go answer o
  where
    out : List ℕ
    out = l.keeps.stands.0

    due : List ℕ
    due = l.keeps.stands.1

    body : List ℕ
    body = l.keeps.stands.2

    at : l.trail.progress ≡ Streaming out due false
    at = l.keeps.stands.3

    whole : IsWholeAt l body
    whole y = l.keeps.stands.4 (b ++ y)

    is : (answer : Answer) → progress_after a l.trail.progress (Did (act.Piece s.piece) answer) ≡ at_piece out due answer
    is answer = held_is a l.trail.progress (at_piece out due answer) out due (Did (act.Piece s.piece) answer) at refl

    go : (answer : Answer) → AfterPiece a held answer n → LeadsTo s e n.phase b x (h ++ (act.Piece s.piece, answer) ∷ []) (w ++ n.said.items)
    go (Lines v true) (inl y) =
        after_due n (after_reply a.closes) held (chunk v.items ++ last_if true) b x (h ++ (act.Piece s.piece, Lines v true) ∷ []) w y
        (answers a Sending (Did (act.Piece s.piece) (Lines v true) ∷ []) body a.closes ((out ++ due) ++ (chunk v.items ++ last_if true)) (chunk v.items ++ last_if true) b x h (w ++ held) l whole (refl, tt)
        (subst (λ (d : Progress). IsOwn s.base a (Whole body) d) (sym (is (Lines v true))) tt) (few_still a Sending b x h (w ++ held) l body (Did (act.Piece s.piece) (Lines v true) ∷ []) whole refl)
        (subst (λ (d : Progress). Settles s.base a (Whole body) d ((out ++ due) ++ (chunk v.items ++ last_if true), not a.closes)) (sym (is (Lines v true))) refl)
        (joins a l.trail.progress out due (chunk v.items ++ last_if true) at ∙ ap (λ (d : Progress). greeting a d ++ ((out ++ due) ++ (chunk v.items ++ last_if true))) (sym (is (Lines v true)))))
    go (Lines v true) (inr y) =
        after_due n Over held [] b x (h ++ (act.Piece s.piece, Lines v true) ∷ []) w (due_alone n Over held y)
        (stops_at a Sending (Did (act.Piece s.piece) (Lines v true) ∷ Short ∷ []) (Cut (out ++ due)) b x h (w ++ held) body l whole (refl, tt) (ap (λ (d : Progress). progress_after a d Short) (is (Lines v true))) refl tt refl
        (ap (λ (c : Progress). said_so_far a c) at))
    go (Lines v false) (inl y) =
        after_due n (Serving a Sending) held (chunk v.items ++ last_if false) b x (h ++ (act.Piece s.piece, Lines v false) ∷ []) w y
        (reads_at a Sending Sending (Did (act.Piece s.piece) (Lines v false) ∷ []) (Streaming (out ++ due) (chunk v.items ++ last_if false) false) (chunk v.items ++ last_if false) b x h (w ++ held) body l whole (refl, tt) (is (Lines v false))
        (joins a l.trail.progress out due (chunk v.items ++ last_if false) at) refl (out ++ due, chunk v.items ++ last_if false, body, refl, λ z. refl))
    go (Lines v false) (inr y) =
        after_due n (Serving a work.Cutting) held [] b x (h ++ (act.Piece s.piece, Lines v false) ∷ []) w (due_alone n (Serving a work.Cutting) held y)
        (reads_at a Sending work.Cutting (Did (act.Piece s.piece) (Lines v false) ∷ Short ∷ []) (CancelDue (out ++ due)) [] b x h (w ++ held) body l whole (refl, tt) (ap (λ (d : Progress). progress_after a d Short) (is (Lines v false)))
        (append-nil (said_so_far a l.trail.progress) ∙ ap (λ (c : Progress). said_so_far a c) at) refl (out ++ due, body, refl, λ z. refl))
    go (Refused why.NoMemory) y =
        after_due n (Serving a work.Cutting) held [] b x (h ++ (act.Piece s.piece, Refused why.NoMemory) ∷ []) w (due_alone n (Serving a work.Cutting) held y)
        (reads_at a Sending work.Cutting (Did (act.Piece s.piece) (Refused why.NoMemory) ∷ []) (CancelDue (out ++ due)) [] b x h (w ++ held) body l whole (refl, tt) (is (Refused why.NoMemory))
        (append-nil (said_so_far a l.trail.progress) ∙ ap (λ (c : Progress). said_so_far a c) at) refl (out ++ due, body, refl, λ z. refl))
    go other y =
        after_due n Over held [] b x (h ++ (act.Piece s.piece, other) ∷ []) w (due_alone n Over held y)
        (stops_at a Sending (Did (act.Piece s.piece) other ∷ []) (Misanswered (Streaming out due false)) b x h (w ++ held) body l whole (refl, tt) (is other) refl tt refl (ap (λ (c : Progress). said_so_far a c) at))
