-- How a history goes on: in silence, by moves and a text, or by an entry that is answered.
use Rattle.std.proofs.Common.{◌≡◌, inl, ◌+◌, ◌≤◌, arith, ℕ, Bool, true, false, cond, not, ◌||◌, List, [], ◌∷◌, ◌++◌, length, refl, sym, ap, subst, ◌∙◌, append-nil, append_assoc}
use Rattle.std.specs.List.{flat_map}
use Rattle.std.proofs.lemmas.List.Concat.{flat_map-append}
use Rattle.gs_transfer.specs.Cuts.{BodyCut, End}
use Rattle.gs_transfer.specs.Cuts as cut
use Rattle.gs_verdict.specs.declared.verdicts.Asked.{Asked}
use Rattle.gs_stream.specs.Requests.{Request, by_body, by_end, requests}
use Rattle.gs_talk.specs.Plans.{Plan, plan_of}
use Rattle.gs_talk.specs.Progress.{Move, Did, Short, Progress, NotStarted}
use Rattle.gs_talk.specs.Moves.{progress_after, progress}
use Rattle.gs_talk.specs.Seats.{Deeds}
use Rattle.gs_talk.specs.Replies.{BodyState, Whole, Faulty, Unended, IsOwn, Settles, said_so_far, greeting, data_of}
use Rattle.gs_talk.specs.Logs.{Server, Entry, Log, AllSuit, AnswersAsk, AnswersAll, deed_of, deeds_of, deeds, texts, stages_in}
use Rattle.gs_talk.specs.Closings.{is_closed}
use Rattle.gs_session.specs.declared.phases.Phase.{Phase}
use Rattle.gs_session.specs.declared.phases.Phase.TheVariants.{Between, Serving, Over}
use Rattle.gs_session.specs.declared.phases.Work.{Work}
use Rattle.gs_session.specs.Trails.{Trail, coming, WorkStands, KeepsTrail}
use Rattle.gs_session.specs.Leads.{LeadsTo, MayCome, IsShut}

-- moves

pub progress-append : (a : Asked) (c : Progress) (ms ns : List Move) → progress a c (ms ++ ns) ≡ progress a (progress a c ms) ns
progress-append a c [] ns = refl
progress-append a c (m ∷ ms) ns = progress-append a (progress_after a c m) ms ns

pub suit-append : (piece : ℕ) (p : Plan) (ms ns : List Move) → AllSuit piece p ms → AllSuit piece p ns → AllSuit piece p (ms ++ ns)
suit-append piece p [] ns k j = j
suit-append piece p (Short ∷ ms) ns k j = suit-append piece p ms ns k j
suit-append piece p (Did action answer ∷ ms) ns k j = (k.0, suit-append piece p ms ns k.1 j)

pub stages-append : (ms ns : List Move) → stages_in (ms ++ ns) ≡ stages_in ms + stages_in ns
stages-append [] ns = omega arith
stages-append (m ∷ ms) ns = omega (arith, stages-append ms ns)

-- The bytes that are left are used, or the phase changes, and nothing is done or said.
pub silent : {s : Server} {e : Bool} (p q : Phase) (b c x : List ℕ) (h : Deeds) (said : List ℕ) (l : LeadsTo s e p b x h said) (t : Trail)
    → ((y : List ℕ) → coming s.base q t (c ++ y) ≡ coming s.base p l.trail (b ++ y)) → KeepsTrail s q t l.now l.text → (IsShut p l.log → IsShut q l.log) → LeadsTo s e q c x h said
silent {s} {e} p q b c x h said l t d k shut = record {
  trail = t;
  log = l.log;
  now = l.now;
  text = l.text;
  same = λ y i more rest z. l.same y i more rest (subst (λ (rs : List Request). AnswersAll s e more rs rest) (d y) z);
  done = l.done;
  written = l.written;
  keeps = k;
  shut = shut l.shut;
}

-- Moves are made and a text is said, and the same request is served.
pub moved : {s : Server} {e : Bool} (a : Asked) (k k2 : Work) (ms : List Move) (u b c x : List ℕ) (h : Deeds) (said : List ℕ) (l : LeadsTo s e (Serving a k) b x h said) (t : Trail)
    → ((y : List ℕ) → t.cut (c ++ y) ≡ l.trail.cut (b ++ y)) → AllSuit s.piece (plan_of a) ms → progress a l.trail.progress ms ≡ t.progress
    → said_so_far a l.trail.progress ++ u ≡ said_so_far a t.progress → ((z : List ℕ) → stages_in l.now + stages_in ms ≤ length (t.cut z).bytes + 1)
    → WorkStands s.base a k2 t (stages_in l.now + stages_in ms) → LeadsTo s e (Serving a k2) c x (h ++ deeds_of ms) (said ++ u)
moved {s} {e} a k k2 ms u b c x h said l t d suit f g few j = record {
  trail = t;
  log = l.log;
  now = l.now ++ ms;
  text = l.text ++ u;
  same = λ y i more rest z. l.same y i more rest (subst (λ (v : BodyCut). AnswersAll s e more (by_body (requests s.base) a v) rest) (d y) z);
  done =
      ap (λ z. z ++ deeds_of ms) l.done ∙ append_assoc (deeds l.log) (deeds_of l.now) (deeds_of ms)
      ∙ ap (λ z. deeds l.log ++ z) (sym (flat_map-append deed_of l.now ms));
  written = ap (λ z. z ++ u) l.written ∙ append_assoc (texts l.log) l.text u;
  keeps = record {
    suits = suit-append s.piece (plan_of a) l.now ms l.keeps.suits suit;
    came = progress-append a NotStarted l.now ms ∙ ap (λ (v : Progress). progress a v ms) l.keeps.came ∙ f;
    said = ap (λ z. z ++ u) l.keeps.said ∙ g;
    few = λ z. subst (λ n. n ≤ length (t.cut z).bytes + 1) (sym (stages-append l.now ms)) (few z);
    stands = subst (λ n. WorkStands s.base a k2 t n) (sym (stages-append l.now ms)) j;
  };
  shut = l.shut;
}

grow : {A E : Type 0} (f : E → List A) (log : List E) (e : E) (v now u : List A) → v ≡ flat_map f log ++ now → f e ≡ now ++ u → v ++ u ≡ flat_map f (log ++ e ∷ []) ++ []
grow f log e v now u p q =
    ap (λ z. z ++ u) p ∙ append_assoc (flat_map f log) now u
    ∙ sym (append-nil (flat_map f (log ++ e ∷ [])) ∙ flat_map-append f log (e ∷ []) ∙ ap (λ z. flat_map f log ++ z) (append-nil (f e) ∙ q))

-- a reply after which the connection is over closes or stops, and no other
abbrev pub Closes : Phase → Bool → Type 0
Closes Over goes = goes ≡ false
Closes p goes = goes ≡ true

or_true : (b : Bool) → (b || true) ≡ true
or_true true = refl
or_true false = refl

closed_last : (log : Log) (n : Entry) → n.goes ≡ false → is_closed (log ++ n ∷ []) ≡ true
closed_last [] n f = ap (λ b. not b || false) f
closed_last (m ∷ log) n f = ap (λ b. not m.goes || b) (closed_last log n f) ∙ or_true (not m.goes)

or_goes : (v a b : Bool) → (a ≡ false → b ≡ false) → (not v || a) ≡ false → (not v || b) ≡ false
or_goes true a b f g = f g
or_goes false a b f g = absurd (cc)

open_last : (log : Log) (n : Entry) → is_closed log ≡ false → n.goes ≡ true → is_closed (log ++ n ∷ []) ≡ false
open_last [] n g f = ap (λ b. not b || false) f
open_last (m ∷ log) n g f = or_goes m.goes (is_closed log) (is_closed (log ++ n ∷ [])) (λ w. open_last log n w f) g

shut_last : (q : Phase) (log : Log) (n : Entry) → is_closed log ≡ false → Closes q n.goes → IsShut q (log ++ n ∷ [])
shut_last Over log n g f = closed_last log n f
shut_last Between log n g f = open_last log n g f
shut_last (Serving a k) log n g f = open_last log n g f

-- A request is answered, after some last moves and a text.
pub answered : {s : Server} {e : Bool} (p q : Phase) (b c x : List ℕ) (h : Deeds) (said : List ℕ) (l : LeadsTo s e p b x h said) (ms : List Move) (u : List ℕ) (goes : Bool) (t : Trail)
    → ((y : List ℕ) → MayCome e y → (more : Log) (rest : List Request) → AnswersAll s e more (coming s.base q t (c ++ y)) rest
    → AnswersAll s e ((record { moves = l.now ++ ms; text = l.text ++ u; goes = goes }) ∷ more) (coming s.base p l.trail (b ++ y)) rest)
    → KeepsTrail s q t [] [] → is_closed l.log ≡ false → Closes q goes → LeadsTo s e q c x (h ++ deeds_of ms) (said ++ u)
answered {s} {e} p q b c x h said l ms u goes t f k open_yet j =
    let n : Entry = record { moves = l.now ++ ms; text = l.text ++ u; goes = goes } in
    record {
      trail = t;
      log = l.log ++ n ∷ [];
      now = [];
      text = [];
      same = λ y i more rest g. subst (λ (z : Log). AnswersAll s e z (requests s.base (x ++ y)) rest) (sym (append_assoc l.log (n ∷ []) more)) (l.same y i (n ∷ more) rest (f y i more rest g));
      done = grow (λ (n : Entry). deeds_of n.moves) l.log n h (deeds_of l.now) (deeds_of ms) l.done (flat_map-append deed_of l.now ms);
      written = grow (λ (n : Entry). n.text) l.log n said l.text u l.written refl;
      keeps = k;
      shut = shut_last q l.log n open_yet j;
    }

abbrev pub none : Trail
none = record { cut = λ z. record { bytes = []; end = cut.Open }; progress = NotStarted }

-- what settles the progress of a request that is served, with last moves, answers it
pub settles : {s : Server} {e : Bool} (a : Asked) (k : Work) (ms : List Move) (o : BodyState) (goes : Bool) (v u b x : List ℕ) (h : Deeds) (said : List ℕ) (l : LeadsTo s e (Serving a k) b x h said)
    → AllSuit s.piece (plan_of a) ms → IsOwn s.base a o (progress a l.trail.progress ms) → stages_in l.now + stages_in ms ≤ length (data_of o) + 1
    → Settles s.base a o (progress a l.trail.progress ms) (v, goes) → said_so_far a l.trail.progress ++ u ≡ greeting a (progress a l.trail.progress ms) ++ v
    → AnswersAsk s a o (l.now ++ ms) (l.text ++ u, goes)
settles {s} a k ms o goes v u b x h said l suit own few set g =
    let is : progress a NotStarted (l.now ++ ms) ≡ progress a l.trail.progress ms = progress-append a NotStarted l.now ms ∙ ap (λ (c : Progress). progress a c ms) l.keeps.came in (
      (
        suit-append s.piece (plan_of a) l.now ms l.keeps.suits suit,
        subst (λ (c : Progress). IsOwn s.base a o c) (sym is) own,
        subst (λ n. n ≤ length (data_of o) + 1) (sym (stages-append l.now ms)) few,
      ),
      (
        (v, goes),
        subst (λ (c : Progress). Settles s.base a o c (v, goes)) (sym is) set,
        inl (ap (λ (z : List ℕ). (z, goes)) (ap (λ z. z ++ u) l.keeps.said ∙ g) ∙ ap (λ (c : Progress). (greeting a c ++ v, goes)) (sym is)),
      ),
    )

-- The connection ends after the reply, whatever the body is.
pub ends : {s : Server} {e : Bool} (a : Asked) (k : Work) (ms : List Move) (v u b c x : List ℕ) (h : Deeds) (said : List ℕ) (l : LeadsTo s e (Serving a k) b x h said)
    → AllSuit s.piece (plan_of a) ms → ((o : BodyState) → IsOwn s.base a o (progress a l.trail.progress ms)) → ((z : List ℕ) → stages_in l.now + stages_in ms ≤ length (l.trail.cut z).bytes + 1)
    → ((o : BodyState) → Settles s.base a o (progress a l.trail.progress ms) (v, false)) → said_so_far a l.trail.progress ++ u ≡ greeting a (progress a l.trail.progress ms) ++ v
    → LeadsTo s e Over c x (h ++ deeds_of ms) (said ++ u)
ends {s} {e} a k ms v u b c x h said l suit own few set g =
    answered (Serving a k) Over b c x h said l ms u false none (λ y i more rest w. go (l.trail.cut (b ++ y)) (few (b ++ y)) more rest w) (refl, refl) l.shut refl
  where
    by : (o : BodyState) → stages_in l.now + stages_in ms ≤ length (data_of o) + 1 → AnswersAsk s a o (l.now ++ ms) (l.text ++ u, false)
    by o n = settles a k ms o false v u b x h said l suit (own o) n (set o) g

    at_end : (d : List ℕ) (n : End) → stages_in l.now + stages_in ms ≤ length d + 1 → (more : Log) (rest : List Request) → AnswersAll s e more [] rest
        → AnswersAll s e ((record { moves = l.now ++ ms; text = l.text ++ u; goes = false }) ∷ more) (by_end (requests s.base) a d n) rest
    at_end d cut.Open m more rest w = (by (Unended d e) m, w)
    at_end d (cut.Faulty st) m more rest w = (by (Faulty d st) m, w)
    at_end d (cut.Whole z) m more rest w = (by (Whole d) m, w)

    go : (v : BodyCut) → stages_in l.now + stages_in ms ≤ length v.bytes + 1 → (more : Log) (rest : List Request) → AnswersAll s e more [] rest
        → AnswersAll s e ((record { moves = l.now ++ ms; text = l.text ++ u; goes = false }) ∷ more) (by_body (requests s.base) a v) rest
    go v m more rest w = at_end v.bytes v.end m more rest w

-- what comes after a reply
abbrev pub replied : Bool → Phase
replied closes = cond closes Over Between

-- A request whose body is whole is answered.
pub answers : {s : Server} {e : Bool} (a : Asked) (k : Work) (ms : List Move) (body : List ℕ) (closes : Bool) (v u b x : List ℕ) (h : Deeds) (said : List ℕ) (l : LeadsTo s e (Serving a k) b x h said)
    → ((y : List ℕ) → l.trail.cut (b ++ y) ≡ record { bytes = body; end = cut.Whole (b ++ y) })
    → AllSuit s.piece (plan_of a) ms → IsOwn s.base a (Whole body) (progress a l.trail.progress ms) → stages_in l.now + stages_in ms ≤ length body + 1
    → Settles s.base a (Whole body) (progress a l.trail.progress ms) (v, not closes) → said_so_far a l.trail.progress ++ u ≡ greeting a (progress a l.trail.progress ms) ++ v
    → LeadsTo s e (replied closes) b x (h ++ deeds_of ms) (said ++ u)
answers {s} {e} a k ms body true v u b x h said l whole suit own few set g =
    answered (Serving a k) Over b b x h said l ms u false none
    (λ y i more rest w. subst (λ (c : BodyCut). AnswersAll s e ((record { moves = l.now ++ ms; text = l.text ++ u; goes = false }) ∷ more) (by_body (requests s.base) a c) rest) (sym (whole y))
    (settles a k ms (Whole body) false v u b x h said l suit own few set g, w))
    (refl, refl) l.shut refl
answers {s} {e} a k ms body false v u b x h said l whole suit own few set g =
    answered (Serving a k) Between b b x h said l ms u true none
    (λ y i more rest w. subst (λ (c : BodyCut). AnswersAll s e ((record { moves = l.now ++ ms; text = l.text ++ u; goes = true }) ∷ more) (by_body (requests s.base) a c) rest) (sym (whole y))
    (settles a k ms (Whole body) true v u b x h said l suit own few set g, w))
    (refl, refl) l.shut refl

-- A request whose body has a fault in its transfer is answered, and the connection ends.
pub answers_fault : {s : Server} {e : Bool} (a : Asked) (k : Work) (ms : List Move) (front : List ℕ) (st : ℕ) (v u b c x : List ℕ) (h : Deeds) (said : List ℕ) (l : LeadsTo s e (Serving a k) b x h said)
    → ((y : List ℕ) → l.trail.cut (b ++ y) ≡ record { bytes = front; end = cut.Faulty st })
    → AllSuit s.piece (plan_of a) ms → IsOwn s.base a (Faulty front st) (progress a l.trail.progress ms) → stages_in l.now + stages_in ms ≤ length front + 1
    → Settles s.base a (Faulty front st) (progress a l.trail.progress ms) (v, false) → said_so_far a l.trail.progress ++ u ≡ greeting a (progress a l.trail.progress ms) ++ v
    → LeadsTo s e Over c x (h ++ deeds_of ms) (said ++ u)
answers_fault {s} {e} a k ms front st v u b c x h said l faulty suit own few set g =
    answered (Serving a k) Over b c x h said l ms u false none
    (λ y i more rest w. subst (λ (d : BodyCut). AnswersAll s e ((record { moves = l.now ++ ms; text = l.text ++ u; goes = false }) ∷ more) (by_body (requests s.base) a d) rest) (sym (faulty y))
    (settles a k ms (Faulty front st) false v u b x h said l suit own few set g, w))
    (refl, refl) l.shut refl

-- The input ended within the body, and so does the connection.
pub ends_open : {s : Server} (a : Asked) (k : Work) (ms : List Move) (front v u b c x : List ℕ) (h : Deeds) (said : List ℕ) (l : LeadsTo s true (Serving a k) b x h said)
    → l.trail.cut (b ++ []) ≡ record { bytes = front; end = cut.Open }
    → AllSuit s.piece (plan_of a) ms → IsOwn s.base a (Unended front true) (progress a l.trail.progress ms) → stages_in l.now + stages_in ms ≤ length front + 1
    → Settles s.base a (Unended front true) (progress a l.trail.progress ms) (v, false) → said_so_far a l.trail.progress ++ u ≡ greeting a (progress a l.trail.progress ms) ++ v
    → LeadsTo s true Over c x (h ++ deeds_of ms) (said ++ u)
ends_open {s} a k ms front v u b c x h said l ended suit own few set g =
    answered (Serving a k) Over b c x h said l ms u false none
    (λ y i more rest w. subst (λ (d : BodyCut). AnswersAll s true ((record { moves = l.now ++ ms; text = l.text ++ u; goes = false }) ∷ more) (by_body (requests s.base) a d) rest)
    (sym (ap (λ z. l.trail.cut (b ++ z)) i ∙ ended))
    (settles a k ms (Unended front true) false v u b x h said l suit own few set g, w))
    (refl, refl) l.shut refl

-- what is over does not look at the bytes
pub any_bytes : {s : Server} {e : Bool} (b c x : List ℕ) (h : Deeds) (said : List ℕ) → LeadsTo s e Over b x h said → LeadsTo s e Over c x h said
any_bytes b c x h said l = silent Over Over b c x h said l l.trail (λ y. refl) l.keeps (λ i. i)
