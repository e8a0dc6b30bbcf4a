-- The start of a connection, and the end of its input.
use Rattle.std.proofs.Common.{◌≡◌, ℕ, Bool, true, false, cond, List, [], ◌∷◌, ◌++◌, refl, sym, subst, append-nil}
use Rattle.gs_verdict.specs.declared.verdicts.Asked.{Asked}
use Rattle.gs_stream.specs.Requests.{Request, Denied, Asks, Breaks, Waits, requests}
use Rattle.gs_talk.specs.Progress.{Move, Progress, NotStarted, Early, Late, Dropped, Wrote, Patched, Erased, Looked, Missing, Streaming, CancelDue, Cut, Left, Mute, Misanswered, Memory, Numbers}
use Rattle.gs_talk.specs.Moves.{progress}
use Rattle.gs_talk.specs.Seats.{Deeds}
use Rattle.gs_talk.specs.Replies.{Unended, Said, IsOwn, Settles}
use Rattle.gs_talk.specs.Logs.{Server, Log, Answered, AnswersAll}
use Rattle.gs_session.specs.declared.phases.Phase.{Phase}
use Rattle.gs_session.specs.declared.phases.Phase.TheVariants.{Between}
use Rattle.gs_session.specs.Trails.{coming}
use Rattle.gs_session.specs.Leads.{LeadsTo}
use Rattle.gs_session.proofs.MoveLemmas.{none}
use Rattle.gs_session.proofs.RestLemmas.{answered_now}

-- A new connection: no bytes came, nothing was done, and nothing was said.
pub starts : (s : Server) (b said : List ℕ) → b ≡ [] → said ≡ [] → LeadsTo s false Between b [] [] said
starts s b said f g = record {
  trail = none;
  log = [];
  now = [];
  text = [];
  same = λ y i more rest k. subst (λ (z : List ℕ). AnswersAll s false more (requests s.base (z ++ y)) rest) f k;
  done = refl;
  written = g;
  keeps = (refl, refl);
  shut = refl;
}

-- the end of the input

own_ends : (base : List ℕ) (a : Asked) (front : List ℕ) (c : Progress) → IsOwn base a (Unended front false) c → IsOwn base a (Unended front true) c
own_ends base a front (Wrote r g st name number) o = absurd o
own_ends base a front (Patched r ops st number) o = absurd o
own_ends base a front (Erased st number) o = absurd o
own_ends base a front (Looked st number) o = absurd o
own_ends base a front (Missing st number) o = absurd o
own_ends base a front (Streaming out due end) o = absurd o
own_ends base a front (CancelDue out) o = absurd o
own_ends base a front (Cut out) o = absurd o
own_ends base a front (Left out) o = absurd o
own_ends base a front (Mute c) o = own_ends base a front c o
own_ends base a front (Misanswered c) o = own_ends base a front c o
own_ends base a front c o = tt

settles_ends : (base : List ℕ) (a : Asked) (front : List ℕ) (c : Progress) (t : Said) → Settles base a (Unended front false) c t → Settles base a (Unended front true) c t
settles_ends base a front NotStarted t s = (refl, s.1, s.2)
settles_ends base a front (Early Memory) t s = s
settles_ends base a front (Early Numbers) t s = s
settles_ends base a front (Late Memory) t s = s
settles_ends base a front (Late Numbers) t s = absurd s.0
settles_ends base a front (Dropped r) t s = (refl, s.1)
settles_ends base a front (Wrote r g st name number) t s = s
settles_ends base a front (Patched r ops st number) t s = s
settles_ends base a front (Erased st number) t s = s
settles_ends base a front (Looked st number) t s = s
settles_ends base a front (Missing st number) t s = s
settles_ends base a front (Streaming out due true) t s = s
settles_ends base a front (Cut out) t s = s
settles_ends base a front (Mute c) t s = ((s.0.0, settles_ends base a front c s.0.0 s.0.1), s.1)
settles_ends base a front (Misanswered c) t s = s
settles_ends base a front c t s = absurd s

-- what was answered before the end of the input is answered with it
answered_ends : (s : Server) (e : Bool) (r : Request) (ms : List Move) (t : Said) → Answered s e r ms t → Answered s true r ms t
answered_ends s true r ms t k = k
answered_ends s false (Denied d) ms t k = k
answered_ends s false (Asks a body) ms t k = k
answered_ends s false (Breaks a front st) ms t k = k
answered_ends s false (Waits a front) ms t k =
    ((k.0.0, own_ends s.base a front (progress a NotStarted ms) k.0.1, k.0.2), (k.1.0, settles_ends s.base a front (progress a NotStarted ms) k.1.0 k.1.1, k.1.2))

log_ends : (s : Server) (e : Bool) (log : Log) (rs rest : List Request) → AnswersAll s e log rs rest → AnswersAll s true log rs rest
log_ends s e [] rs rest k = k
log_ends s e (n ∷ log) [] rest k = absurd k
log_ends s e (n ∷ log) (r ∷ rs) rest k = (answered_ends s e r n.moves (n.text, n.goes) k.0, log_ends s e log (cond n.goes rs []) rest k.1)

-- a log that answers what another leaves goes on after it
pub log_append : (s : Server) (e : Bool) (log more : Log) (rs mid rest : List Request) → AnswersAll s e log rs mid → AnswersAll s e more mid rest → AnswersAll s e (log ++ more) rs rest
log_append s e [] more rs mid rest f g = subst (λ (z : List Request). AnswersAll s e more z rest) f g
log_append s e (n ∷ log) more [] mid rest f g = absurd f
log_append s e (n ∷ log) more (r ∷ rs) mid rest f g = (f.0, log_append s e log more (cond n.goes rs []) mid rest f.1 g)

-- No more bytes come.
pub input_ends : {s : Server} {e : Bool} (p : Phase) (b x : List ℕ) (h : Deeds) (said : List ℕ) → LeadsTo s e p b x h said → LeadsTo s true p b x h said
input_ends {s} {e} p b x h said l = record {
  trail = l.trail;
  log = l.log;
  now = l.now;
  text = l.text;
  same = λ y i more rest k. log_append s true l.log more (requests s.base (x ++ y)) (coming s.base p l.trail (b ++ y)) rest (here y i) k;
  done = l.done;
  written = l.written;
  keeps = l.keeps;
  shut = l.shut;
}
  where
    here : (y : List ℕ) → y ≡ [] → AnswersAll s true l.log (requests s.base (x ++ y)) (coming s.base p l.trail (b ++ y))
    here y i =
        subst (λ (z : List ℕ). AnswersAll s true l.log (requests s.base (x ++ z)) (coming s.base p l.trail (b ++ z))) (sym i)
        (subst (λ (z : List ℕ). AnswersAll s true l.log (requests s.base z) (coming s.base p l.trail (b ++ []))) (sym (append-nil x))
        (subst (λ (z : List ℕ). AnswersAll s true l.log (requests s.base x) (coming s.base p l.trail z)) (sym (append-nil b))
        (log_ends s e l.log (requests s.base x) (coming s.base p l.trail b) (answered_now l))))
