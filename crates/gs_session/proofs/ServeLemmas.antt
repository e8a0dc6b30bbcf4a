-- Whole connections.
use Rattle.std.proofs.Common.{◌≡◌, ℕ, Bool, true, false, Option, List, [], ◌∷◌, ◌++◌, take, drop, refl, sym, ap, subst, ◌∙◌, append-nil, append_assoc, inl}
use Rattle.std.proofs.lemmas.List.{take-append-drop}
use Rattle.std.proofs.KnownBytes.{Appends-nil, Appends-trans, Appends-kept, Consumes-nil, Consumes-trans}
use Rattle.std.specs.Io.KnownBytes.{Appends, Consumes, Keeps, IsAtEnd}
use Rattle.gs_event.specs.declared.events.Event.{Event}
use Rattle.gs_event.specs.declared.answers.Answer.{Answer}
use Rattle.gs_stream.specs.Requests as stream
use Rattle.gs_talk.specs.Seats.{Deeds}
use Rattle.gs_talk.specs.Logs.{Server, Talk}
use Rattle.gs_talk.specs.Closings.{SaysLast, SaysFront}
use Rattle.gs_talk.specs.Laws.{AreOfKind, IsIdle}
use Rattle.gs_talk.proofs.LogLemmas.{rests_idle, talk_points}
use Rattle.gs_session.specs.declared.sessions.Session.{Session}
use Rattle.gs_session.specs.declared.sessions.Turn.{Turn}
use Rattle.gs_session.specs.declared.sessions.Turn.TheVariants.{NeedInput, Made, Output, Over}
use Rattle.gs_session.specs.declared.setups.Setup.{Setup}
use Rattle.gs_session.specs.Leads.{MayCome}
use Rattle.gs_session.specs.Steps.{server_of}
use Rattle.gs_session.specs.Turns.{Leads, MakesTurn, HasEnded, Ran, Quits}
use Rattle.gs_session.specs.Connections.{Connection, IsFinished, Quit, AsksRightly}
use Rattle.gs_session.specs.Rounds.{Goes, ReadsInput, Loses}
use Rattle.gs_session.proofs.RestLemmas.{may_none}

ran_more : {D : Type 0} (gives : D → Event → Answer → D → Type 0) (seat : ℕ) (a b c : D) (d f : Deeds) → Ran gives seat a d b → Ran gives seat b f c → Ran gives seat a (d ++ f) c
ran_more gives seat a b c [] f p q = subst (λ z. Ran gives seat z f c) p q
ran_more gives seat a b c (d ∷ ds) f p q = (p.0, p.1, ran_more gives seat p.0 b c ds f p.2 q)

-- what ran is of its kind
kinds_ran : {D : Type 0} (gives : D → Event → Answer → D → Type 0) (seat : ℕ) (a b : D) (h : Deeds) → Ran gives seat a h b → AreOfKind seat h
kinds_ran gives seat a b [] r = tt
kinds_ran gives seat a b (d ∷ ds) r = (r.1.1, kinds_ran gives seat r.0 b ds r.2)

-- what a turn wrote
abbrev pub output : Turn → List ℕ
output (Output b) = b.items
output turn = []

-- a turn, as deeds and a text
stepped : {D : Type 0} (gives : D → Event → Answer → D → Type 0) (s : Session) (old : D) (t : Turn) (s2 : Session) (new : D) → MakesTurn gives s old t s2 new
    → (d : Deeds) × Ran gives s.setup.seat old d new × ((x : List ℕ) (h : Deeds) (w : List ℕ) → Leads s x h w → Leads s2 x (h ++ d) (w ++ output t))
stepped gives s old Made s2 new f = ((f.0, f.1) ∷ [], (new, f.2, refl), λ x h w l. subst (λ z. Leads s2 x (h ++ (f.0, f.1) ∷ []) z) (sym (append-nil w)) (f.3 x h w l))
stepped gives s old (Output v) s2 new f = ([], f.0, λ x h w l. subst (λ (z : Deeds). Leads s2 x z (w ++ v.items)) (sym (append-nil h)) (f.2 x h w l))
stepped gives s old NeedInput s2 new f = ([], f.0, λ x h w l. subst (λ (z : Deeds). Leads s2 x z (w ++ [])) (sym (append-nil h)) (subst (λ z. Leads s2 x h z) (sym (append-nil w)) (f.1 x h w l)))
stepped gives s old Over s2 new f = ([], f.0, λ x h w l. subst (λ (z : Deeds). Leads s2 x z (w ++ [])) (sym (append-nil h)) (subst (λ z. Leads s2 x h z) (sym (append-nil w)) (f.1 x h w l)))

-- A turn was taken, and its text was written.
pub after_turn : {D : Type 0} (gives : D → Event → Answer → D → Type 0) (p : Server) (seat : ℕ) (unread left held holds holds2 : Option (List ℕ)) (first old new : D) (s s2 : Session) (t : Turn)
    → Connection gives seat unread left held holds first old (Goes p seat s left) → MakesTurn gives s old t s2 new → s2.setup ≡ s.setup → s2.ended ≡ s.ended → Appends holds holds2 (output t)
    → Connection gives seat unread left held holds2 first new (Goes p seat s2 left)
after_turn gives p seat unread left held holds holds2 first old new s s2 t z f setup ended a =
    let m = stepped gives s old t s2 new f in
    record {
      x = z.x;
      h = z.h ++ m.0;
      w = z.w ++ output t;
      read = z.read;
      written = Appends-trans held holds holds2 z.w (output t) z.written a;
      ran = ran_more gives seat first old new z.h m.0 z.ran (subst (λ n. Ran gives n old m.0 new) z.fact.3 m.1);
      fact = (
        m.2 z.x z.h z.w z.fact.0,
        λ e. z.fact.1 (sym ended ∙ e),
        ap (λ (g : Setup). server_of g) setup ∙ z.fact.2,
        ap (λ (g : Setup). g.seat) setup ∙ z.fact.3,
      );
    }

-- The connection has ended.
pub at_end : {D : Type 0} (gives : D → Event → Answer → D → Type 0) (p : Server) (seat : ℕ) (unread left held holds : Option (List ℕ)) (first new : D) (s : Session)
    → Connection gives seat unread left held holds first new (Goes p seat s left) → HasEnded s → Connection gives seat unread left held holds first new (IsFinished p left)
at_end gives p seat unread left held holds first new s z f =
    let says : SaysLast p s.ended z.x z.h z.w = subst (λ (q : Server). SaysLast q s.ended z.x z.h z.w) z.fact.2 (f z.x z.h z.w z.fact.0) in
    record {
      x = z.x;
      h = z.h;
      w = z.w;
      read = z.read;
      written = z.written;
      ran = z.ran;
      fact = (s.ended, z.fact.1, says, (talk_points p s.ended z.x z.h z.w [] says.0, rests_idle p s.ended seat z.x z.h z.w (kinds_ran gives seat first new z.h z.ran) says.0));
    }

-- a conversation so far asks what its requests ask
asks : (p : Server) (e : Bool) (x : List ℕ) (h : Deeds) (w : List ℕ) → SaysFront p e x h w → IsIdle h → AsksRightly p x h
asks p e x h w f i = (talk_points p e x h (w ++ f.1) f.0 f.2, i)

-- what is whole is a front
pub done_quits : {D : Type 0} (gives : D → Event → Answer → D → Type 0) (p : Server) (seat : ℕ) (unread left held holds : Option (List ℕ)) (first new : D)
    → Connection gives seat unread left held holds first new (IsFinished p left) → Connection gives seat unread left held holds first new (Quit p left)
done_quits gives p seat unread left held holds first new z = record {
  x = z.x;
  h = z.h;
  w = z.w;
  read = z.read;
  written = z.written;
  ran = z.ran;
  fact = (z.fact.0, z.fact.1, ([], [], subst (λ v. Talk p z.fact.0 z.x z.h v []) (sym (append-nil z.w)) z.fact.2.0), z.fact.3);
}

-- a flush writes no byte
pub flushed : {D : Type 0} (gives : D → Event → Answer → D → Type 0) (seat : ℕ) (unread left held holds holds2 : Option (List ℕ)) (first new : D) (Holds : List ℕ → Deeds → List ℕ → Type 0)
    → Connection gives seat unread left held holds first new Holds → Keeps holds holds2 → Connection gives seat unread left held holds2 first new Holds
flushed gives seat unread left held holds holds2 first new Holds z k =
    record { x = z.x; h = z.h; w = z.w; read = z.read; written = Appends-kept held holds holds2 z.w z.written k; ran = z.ran; fact = z.fact }

-- a front of a front
less : (p : Server) (e : Bool) (x : List ℕ) (h : Deeds) (w t : List ℕ) (n : ℕ) → SaysFront p e x h (w ++ t) → SaysFront p e x h (w ++ take n t)
less p e x h w t n f = (
  f.0,
  drop n t ++ f.1,
  subst (λ z. Talk p e x h z f.0) (append_assoc w t f.1 ∙ ap (λ z. w ++ (z ++ f.1)) (sym (take-append-drop n t)) ∙ ap (λ z. w ++ z) (append_assoc (take n t) (drop n t) f.1) ∙ sym (append_assoc w (take n t) (drop n t ++ f.1))) f.2,
)

-- The connection is given up, with what more was read.
pub given_up : {D : Type 0} (gives : D → Event → Answer → D → Type 0) (p : Server) (seat : ℕ) (unread left left2 held holds : Option (List ℕ)) (first mid new : D) (s : Session) (more : List ℕ)
    → Connection gives seat unread left held holds first mid (Goes p seat s left) → Quits gives s mid new → MayCome s.ended more → Consumes left left2 more → (s.ended ≡ true → IsAtEnd left2)
    → Connection gives seat unread left2 held holds first new (Quit p left2)
given_up gives p seat unread left left2 held holds first mid new s more z q may r end =
    let ran = ran_more gives seat first mid new z.h q.0 z.ran (subst (λ n. Ran gives n mid q.0 new) z.fact.3 q.2) in
    let quits = q.3 z.x z.h z.w more z.fact.0 may in
    let front : SaysFront p s.ended (z.x ++ more) (z.h ++ q.0) z.w = subst (λ (v : Server). SaysFront v s.ended (z.x ++ more) (z.h ++ q.0) z.w) z.fact.2 quits.0 in
    record {
      x = z.x ++ more;
      h = z.h ++ q.0;
      w = z.w;
      read = Consumes-trans unread left left2 z.x more z.read r;
      written = z.written;
      ran = ran;
      fact = (
        s.ended,
        end,
        front,
        asks p s.ended (z.x ++ more) (z.h ++ q.0) z.w front (quits.1 (subst (λ n. AreOfKind n (z.h ++ q.0)) (sym z.fact.3) (kinds_ran gives seat first new (z.h ++ q.0) ran))),
      );
    }

-- A turn whose text was written in part, and then the connection is given up.
pub cut_short : {D : Type 0} (gives : D → Event → Answer → D → Type 0) (p : Server) (seat : ℕ) (unread left held holds holds2 : Option (List ℕ)) (first old mid new : D) (s s2 : Session) (t : Turn) (n : ℕ)
    → Connection gives seat unread left held holds first old (Goes p seat s left) → MakesTurn gives s old t s2 mid → s2.setup ≡ s.setup → s2.ended ≡ s.ended → Quits gives s2 mid new → Appends holds holds2 (take n (output t))
    → Connection gives seat unread left held holds2 first new (Quit p left)
cut_short gives p seat unread left held holds holds2 first old mid new s s2 t n z f setup ended q a =
    let m = stepped gives s old t s2 mid f in
    let same_seat : s2.setup.seat ≡ seat = ap (λ (g : Setup). g.seat) setup ∙ z.fact.3 in
    let ran = ran_more gives seat first mid new (z.h ++ m.0) q.0 (ran_more gives seat first old mid z.h m.0 z.ran (subst (λ k. Ran gives k old m.0 mid) z.fact.3 m.1)) (subst (λ k. Ran gives k mid q.0 new) same_seat q.2) in
    let quits = q.3 z.x (z.h ++ m.0) (z.w ++ output t) [] (m.2 z.x z.h z.w z.fact.0) (may_none s2.ended) in
    let front : SaysFront p s2.ended z.x ((z.h ++ m.0) ++ q.0) (z.w ++ take n (output t)) =
    less p s2.ended z.x ((z.h ++ m.0) ++ q.0) z.w (output t) n
    (subst (λ v. SaysFront p s2.ended v ((z.h ++ m.0) ++ q.0) (z.w ++ output t)) (append-nil z.x)
    (subst (λ (v : Server). SaysFront v s2.ended (z.x ++ []) ((z.h ++ m.0) ++ q.0) (z.w ++ output t)) (ap (λ (g : Setup). server_of g) setup ∙ z.fact.2) quits.0)) in
    record {
      x = z.x;
      h = (z.h ++ m.0) ++ q.0;
      w = z.w ++ take n (output t);
      read = z.read;
      written = Appends-trans held holds holds2 z.w (take n (output t)) z.written a;
      ran = ran;
      fact = (
        s2.ended,
        λ e. z.fact.1 (sym ended ∙ e),
        front,
        asks p s2.ended z.x ((z.h ++ m.0) ++ q.0) (z.w ++ take n (output t)) front (quits.1 (subst (λ k. AreOfKind k ((z.h ++ m.0) ++ q.0)) (sym same_seat) (kinds_ran gives seat first new ((z.h ++ m.0) ++ q.0) ran))),
      );
    }

-- What was read was taken.
pub after_read : {D : Type 0} (gives : D → Event → Answer → D → Type 0) (p : Server) (seat : ℕ) (unread left left2 held holds : Option (List ℕ)) (first new : D) (s s2 : Session)
    → Connection gives seat unread left held holds first new (Goes p seat s left) → ReadsInput s s2 left left2 → Connection gives seat unread left2 held holds first new (Goes p seat s2 left2)
after_read gives p seat unread left left2 held holds first new s s2 z f =
    let m = f.2 z.x z.h z.w z.fact.0 in
    record {
      x = z.x ++ m.0;
      h = z.h;
      w = z.w;
      read = Consumes-trans unread left left2 z.x m.0 z.read m.1;
      written = z.written;
      ran = z.ran;
      fact = (m.2, f.1, ap (λ (g : Setup). server_of g) f.0 ∙ z.fact.2, ap (λ (g : Setup). g.seat) f.0 ∙ z.fact.3);
    }

-- It was not, and the connection is given up.
pub failed_read : {D : Type 0} (gives : D → Event → Answer → D → Type 0) (p : Server) (seat : ℕ) (unread left left2 held holds : Option (List ℕ)) (first mid new : D) (s s2 : Session)
    → Connection gives seat unread left held holds first mid (Goes p seat s left) → s.ended ≡ false → Loses s s2 left left2 → Quits gives s2 mid new
    → Connection gives seat unread left2 held holds first new (Quit p left2)
failed_read gives p seat unread left left2 held holds first mid new s s2 z goes f q =
    given_up gives p seat unread left left2 held holds first mid new s f.1.0 z (subst (λ (r : Session). Quits gives r mid new) f.0 q)
    (subst (λ b. MayCome b f.1.0) (sym goes) tt) f.1.1 (λ e. let clash : false ≡ true = sym goes ∙ e in absurd (cc))

-- Nothing was read, done or written.
pub starts : {D : Type 0} (gives : D → Event → Answer → D → Type 0) (p : Server) (seat : ℕ) (unread held : Option (List ℕ)) (d : D) (s : Session) → Leads s [] [] [] → s.ended ≡ false → server_of s.setup ≡ p → s.setup.seat ≡ seat
    → Connection gives seat unread unread held held d d (Goes p seat s unread)
starts gives p seat unread held d s l goes server own = record {
  x = [];
  h = [];
  w = [];
  read = Consumes-nil unread;
  written = Appends-nil held;
  ran = refl;
  fact = (l, λ e. (let clash : false ≡ true = sym goes ∙ e in absurd (cc)), server, own);
}

-- There was no session.
pub never : {D : Type 0} (gives : D → Event → Answer → D → Type 0) (p : Server) (seat : ℕ) (unread held : Option (List ℕ)) (d : D) → Connection gives seat unread unread held held d d (Quit p unread)
unfolding stream.requests stream.requests_in
never gives p seat unread held d = record {
  x = [];
  h = [];
  w = [];
  read = Consumes-nil unread;
  written = Appends-nil held;
  ran = refl;
  fact = (false, λ e. (let clash : false ≡ true = e in absurd (cc)), ([], [], record { log = []; now = []; text = []; answers = refl; hand = (refl, refl); done = refl; written = refl }), (tt, inl refl));
}

-- The connection is given up, and nothing more was read.
pub ended_here : {D : Type 0} (gives : D → Event → Answer → D → Type 0) (p : Server) (seat : ℕ) (unread left held holds : Option (List ℕ)) (first mid new : D) (s : Session)
    → Connection gives seat unread left held holds first mid (Goes p seat s left) → Quits gives s mid new → Connection gives seat unread left held holds first new (Quit p left)
ended_here gives p seat unread left held holds first mid new s z q =
    given_up gives p seat unread left left held holds first mid new s [] z q (may_none s.ended) (Consumes-nil left) z.fact.1
