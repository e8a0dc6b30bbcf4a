-- Where nothing can be done before more comes, all that is to be said was said.
use Rattle.std.proofs.Common.{◌≡◌, inl, inr, arith, ℕ, Bool, true, false, not, List, [], ◌∷◌, ◌++◌, length, refl, sym, ap, subst, ◌∙◌, append-nil, true≢false}
use Rattle.gs_transfer.specs.Cuts.{BodyCut, with_data, ends}
use Rattle.gs_transfer.specs.Cuts as cut
use Rattle.gs_transfer.specs.Views.{cut_of}
use Rattle.gs_transfer.specs.declared.places.Transfer.{Transfer}
use Rattle.gs_verdict.specs.declared.verdicts.Asked.{Asked}
use Rattle.gs_stream.specs.Heads.{HeadCut, stripped, head_at}
use Rattle.gs_stream.specs.Heads as head
use Rattle.gs_stream.specs.Requests.{Request, Waits, by_body, by_head, requests}
use Rattle.gs_stream.proofs.RequestLemmas.{reads-on}
use Rattle.gs_talk.specs.Progress.{Progress, NotStarted}
use Rattle.gs_talk.specs.Moves.{progress}
use Rattle.gs_talk.specs.Seats.{Deeds}
use Rattle.gs_talk.specs.Replies.{BodyState, Unended, IsOwn, said_so_far}
use Rattle.gs_talk.specs.Logs.{Server, Log, AnswersAll, IsRight}
use Rattle.gs_talk.specs.Closings.{awaits_body, SaysAll, SaysLast}
use Rattle.gs_session.specs.declared.phases.Phase.{Phase}
use Rattle.gs_session.specs.declared.phases.Phase.TheVariants.{Between, Serving, Over}
use Rattle.gs_session.specs.declared.phases.Work.{Work}
use Rattle.gs_session.specs.declared.phases.Work.TheVariants.{Opening, Skipping, Uploading, Committing, Patching, Failing, Sending, Cutting}
use Rattle.gs_session.specs.declared.sessions.Session.{Session}
use Rattle.gs_session.specs.Trails.{Trail, coming}
use Rattle.gs_session.specs.Leads.{LeadsTo, MayCome}
use Rattle.gs_session.specs.Steps.{IsStill, server_of}
use Rattle.gs_session.specs.Turns.{Leads, RestsRightly, turn_at}

pub may_none : (e : Bool) → MayCome e []
may_none true = refl
may_none false = tt

-- the log answers the requests of the stream, up to those that are still to be answered
pub answered_now : {s : Server} {e : Bool} {p : Phase} {b x : List ℕ} {h : Deeds} {said : List ℕ} (l : LeadsTo s e p b x h said) → AnswersAll s e l.log (requests s.base x) (coming s.base p l.trail b)
answered_now {s} {e} {p} {b} {x} l =
    subst (λ (c : List ℕ). AnswersAll s e l.log (requests s.base x) (coming s.base p l.trail c)) (append-nil b)
    (subst (λ (z : List ℕ). AnswersAll s e l.log (requests s.base z) (coming s.base p l.trail (b ++ []))) (append-nil x)
    (subst (λ (g : Log). AnswersAll s e g (requests s.base (x ++ [])) (coming s.base p l.trail (b ++ []))) (append-nil l.log) (l.same [] (may_none e) [] (coming s.base p l.trail (b ++ [])) refl)))

-- what was done for a request whose body is awaited
waiting : {s : Server} {e : Bool} (a : Asked) (k : Work) (b x : List ℕ) (h : Deeds) (said : List ℕ) (l : LeadsTo s e (Serving a k) b x h said) (c : Progress) (front : List ℕ)
    → l.trail.progress ≡ c → ((o : BodyState) → IsOwn s.base a o c) → IsRight c → awaits_body a c ≡ true → l.trail.cut b ≡ record { bytes = front; end = cut.Open } → SaysAll s e x h said
waiting {s} {e} a k b x h said l c front at own right awaits is = (
  Waits a front ∷ [],
  tt,
  (
    record {
      log = l.log;
      now = l.now;
      text = l.text;
      answers = subst (λ (v : BodyCut). AnswersAll s e l.log (requests s.base x) (by_body (requests s.base) a v)) is (answered_now l);
      hand = (
        (
          l.keeps.suits,
          subst (λ (d : Progress). IsOwn s.base a (Unended front e) d) (sym to_c) (own (Unended front e)),
          omega (arith, l.keeps.few b, ap (λ (v : BodyCut). length v.bytes) is),
        ),
        subst IsRight (sym to_c) right,
        l.keeps.said ∙ ap (λ (d : Progress). said_so_far a d) (at ∙ sym to_c),
      );
      done = l.done;
      written = l.written;
    },
    ap (λ (d : Progress). awaits_body a d) to_c ∙ awaits,
    l.shut,
  ),
)
  where
    to_c : progress a NotStarted l.now ≡ c
    to_c = l.keeps.came ∙ at

open_cut : (t : Trail) (done b : List ℕ) (transfer : Transfer) → t.cut b ≡ with_data done (cut_of transfer b) → cut_of transfer b ≡ ends cut.Open → t.cut b ≡ record { bytes = done ++ []; end = cut.Open }
open_cut t done b transfer f g = f ∙ ap (λ (c : BodyCut). with_data done c) g

pub says_all : {s : Server} {e : Bool} (p : Phase) (b x : List ℕ) (h : Deeds) (said : List ℕ) → IsStill p e b → (p ≡ Over → ⊥) → LeadsTo s e p b x h said → SaysAll s e x h said
says_all {s} {e} Between b x h said i n l = (
  [],
  tt,
  (
    record {
      log = l.log;
      now = l.now;
      text = l.text;
      answers = subst (λ (rs : List Request). AnswersAll s e l.log (requests s.base x) rs) (reads-on s.base b ∙ ap (λ (c : HeadCut). by_head s.base (requests s.base) c) i) (answered_now l);
      hand = l.keeps;
      done = l.done;
      written = l.written;
    },
    tt,
    l.shut,
  ),
)
says_all {s} {e} (Serving a (Skipping t)) b x h said i n l =
    waiting a (Skipping t) b x h said l NotStarted (l.keeps.stands.0 ++ []) l.keeps.stands.1 (λ o. tt) tt (ap not l.keeps.stands.2) (open_cut l.trail l.keeps.stands.0 b t (l.keeps.stands.3 b) i.1)
says_all {s} {e} (Serving a (Uploading k t)) b x h said i n l =
    waiting a (Uploading k t) b x h said l _ (l.keeps.stands.done ++ []) l.keeps.stands.stands (λ o. tt) tt refl (open_cut l.trail l.keeps.stands.done b t (l.keeps.stands.cut b) i.1)
says_all {s} {e} (Serving a (Patching r v t)) b x h said i n l =
    waiting a (Patching r v t) b x h said l _ (v.items ++ []) l.keeps.stands.0 (λ o. tt) tt refl (open_cut l.trail v.items b t (l.keeps.stands.1 b) i.1)
says_all (Serving a Opening) b x h said i n l = absurd i
says_all (Serving a Committing) b x h said i n l = absurd i
says_all (Serving a (Failing w)) b x h said i n l = absurd i
says_all (Serving a Sending) b x h said i n l = absurd i
says_all (Serving a Cutting) b x h said i n l = absurd i
says_all Over b x h said i n l = absurd (n refl)

-- after the last request
pub says_last : {s : Server} {e : Bool} (b x : List ℕ) (h : Deeds) (said : List ℕ) → LeadsTo s e Over b x h said → SaysLast s e x h said
says_last {s} {e} b x h said l = (record { log = l.log; now = l.now; text = l.text; answers = answered_now l; hand = l.keeps; done = l.done; written = l.written }, inr l.shut)

-- at the end of the input no head comes
pub ends_between : {s : Server} (b x : List ℕ) (h : Deeds) (said : List ℕ) → head_at (stripped b) ≡ head.Open → LeadsTo s true Between b x h said → SaysLast s true x h said
ends_between {s} b x h said i l = (
  record {
    log = l.log;
    now = l.now;
    text = l.text;
    answers = subst (λ (rs : List Request). AnswersAll s true l.log (requests s.base x) rs) (reads-on s.base b ∙ ap (λ (c : HeadCut). by_head s.base (requests s.base) c) i) (answered_now l);
    hand = l.keeps;
    done = l.done;
    written = l.written;
  },
  inl refl,
)

-- while a request is served, the input has not ended where nothing can be done
no_rest : (a : Asked) (k : Work) (b : List ℕ) → IsStill (Serving a k) true b → ⊥
no_rest a (Skipping t) b i = true≢false i.0
no_rest a (Uploading k t) b i = true≢false i.0
no_rest a (Patching r v t) b i = true≢false i.0
no_rest a Opening b i = i
no_rest a Committing b i = i
no_rest a (Failing w) b i = i
no_rest a Sending b i = i
no_rest a Cutting b i = i

still_open : (p : Phase) (s : Session) → s.phase ≡ p → s.ended ≡ false → IsStill p false s.input → (p ≡ Over → ⊥) → s.due.items ≡ [] → (x : List ℕ) (h : Deeds) (w : List ℕ) → Leads s x h w → SaysAll (server_of s.setup) false x h w
still_open p s f g i n d x h w l =
    subst (λ v. SaysAll (server_of s.setup) false x h v) (ap (λ z. w ++ z) d ∙ append-nil w)
    (says_all p s.input x h (w ++ s.due.items) i n
    (subst (λ b. LeadsTo (server_of s.setup) b p s.input x h (w ++ s.due.items)) g (subst (λ (q : Phase). LeadsTo (server_of s.setup) s.ended q s.input x h (w ++ s.due.items)) f l)))

-- A session that is still rests rightly.
pub rests_at : (p : Phase) (e : Bool) (s : Session) → s.phase ≡ p → s.ended ≡ e → IsStill p e s.input → s.due.items ≡ [] → RestsRightly (turn_at p e) s
rests_at Over e s f g i d = λ x h w l.
    subst (λ v. SaysLast (server_of s.setup) s.ended x h v) (ap (λ z. w ++ z) d ∙ append-nil w)
    (says_last s.input x h (w ++ s.due.items) (subst (λ (p : Phase). LeadsTo (server_of s.setup) s.ended p s.input x h (w ++ s.due.items)) f l))
rests_at Between true s f g i d = λ x h w l.
    subst (λ v. SaysLast (server_of s.setup) s.ended x h v) (ap (λ z. w ++ z) d ∙ append-nil w)
    (subst (λ b. SaysLast (server_of s.setup) b x h (w ++ s.due.items)) (sym g)
    (ends_between s.input x h (w ++ s.due.items) i
    (subst (λ b. LeadsTo (server_of s.setup) b Between s.input x h (w ++ s.due.items)) g (subst (λ (p : Phase). LeadsTo (server_of s.setup) s.ended p s.input x h (w ++ s.due.items)) f l))))
rests_at Between false s f g i d = (g, λ x h w l. still_open Between s f g i (λ q. cc) d x h w l)
rests_at (Serving a k) true s f g i d = absurd (no_rest a k s.input i)
rests_at (Serving a k) false s f g i d = (g, λ x h w l. still_open (Serving a k) s f g i (λ q. cc) d x h w l)
