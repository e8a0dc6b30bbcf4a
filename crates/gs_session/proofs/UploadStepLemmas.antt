-- The steps of an upload, as the code makes them.
use Rattle.std.proofs.Common.{◌≡◌, ◌≢◌, ◌+◌, ◌*◌, ◌≤◌, ◌<◌, ◌==◌, arith, ℕ, Bool, true, false, List, [], ◌∷◌, ◌++◌, length, drop, Some, refl, sym, ap, subst, ◌∙◌, append-nil, length-append, true≢false}
use Rattle.std.proofs.lemmas.Bool.{eqb-true}
use Rattle.std.proofs.lemmas.List.{length-drop, nil_from_length}
use Rattle.gs_model.specs.Triples.{RdfTriple}
use Rattle.gs_model.specs.declared.refusals.Refusal.{Refusal}
use Rattle.gs_model.specs.declared.refusals.Refusal.TheVariants as why
use Rattle.gs_body.specs.Bodies.{Meaning}
use Rattle.gs_triple_lists.specs.Lists.{Listed}
use Rattle.gs_event.specs.declared.events.Event.{Event}
use Rattle.gs_event.specs.declared.events.Action.{Action}
use Rattle.gs_event.specs.declared.events.Action.TheVariants as act
use Rattle.gs_event.specs.declared.answers.Answer.{Answer}
use Rattle.gs_transfer.specs.Cuts.{BodyCut, with_data, ends}
use Rattle.gs_transfer.specs.Cuts as cut
use Rattle.gs_transfer.specs.Views.{cut_of}
use Rattle.gs_transfer.specs.declared.places.Transfer.{Transfer}
use Rattle.gs_upload.specs.declared.readings.Reading.{Reading}
use Rattle.gs_upload.specs.declared.readers.TextReader.{TextReader}
use Rattle.gs_upload.specs.Languages.{meaning_in}
use Rattle.gs_upload.specs.Readers.{meaning_of_text, LeadsText, is_closed_text, IsFedText}
use Rattle.gs_upload.specs.Readings.{MeansAll, FeedsPiece, EndsWhole}
use Rattle.gs_upload.specs.Faults.{HasFault}
use Rattle.gs_verdict.specs.declared.verdicts.Asked.{Asked}
use Rattle.gs_stream.specs.Requests.{by_body, requests}
use Rattle.gs_talk.specs.Plans.{Plan}
use Rattle.gs_talk.specs.Bodies.{document_language, text_base, fault_status, States, refusal_at}
use Rattle.gs_talk.specs.Progress.{Short, Progress, UploadOpen, Lacking, Memory}
use Rattle.gs_talk.specs.Moves.{first, progress_after}
use Rattle.gs_talk.specs.Seats.{Deeds}
use Rattle.gs_talk.specs.Replies.{said_so_far, greeting}
use Rattle.gs_talk.specs.Logs.{Server, stages_in}
use Rattle.gs_session.specs.declared.setups.Setup.{Setup}
use Rattle.gs_session.specs.declared.phases.Phase.{Phase}
use Rattle.gs_session.specs.declared.phases.Phase.TheVariants.{Serving}
use Rattle.gs_session.specs.declared.phases.Work.TheVariants.{Uploading, Committing, Failing}
use Rattle.gs_session.specs.declared.phases.Want.TheVariants as want
use Rattle.gs_session.specs.declared.outcomes.Next.{Next}
use Rattle.gs_session.specs.declared.steps.Step.TheVariants.{Silent, Made}
use Rattle.gs_session.specs.Leads.{LeadsTo}
use Rattle.gs_session.specs.Outcomes.{Says, Stops, AfterStage, AfterCancel}
use Rattle.gs_session.specs.Steps.{Does, GivesData, DoesStep, Rests, MakesPhase, effort, server_of}
use Rattle.gs_session.proofs.MoveLemmas.{silent, moved}
use Rattle.gs_session.proofs.ReplyLemmas.{to_next}
use Rattle.gs_session.proofs.ReadLemmas.{IsWholeAt, no_more, whole_trail}
use Rattle.gs_session.proofs.UploadLemmas.{longer, Reads, seam, reads_on, stage_leads}
use Rattle.gs_session.proofs.CommitLemmas.{IsOpenAt, stage_last, drop_leads, fault_leads, leave_leads}
use Rattle.gs_session.proofs.PlanLemmas.{upload_plan}

-- what a document with a fault is refused by

refused_body : (e : Refusal) (m : Meaning) → HasFault e m → fault_status m.1 ≡ Some 400
refused_body (why.Syntax at) m f = ap fault_status f.broken
refused_body why.TermTooLong m f = ap fault_status f
refused_body other m f = absurd f

-- An upload that is open is cancelled as a whole.
pub open_writing : (a : Asked) (r : ℕ) (g : List RdfTriple) → IsOpenAt a (UploadOpen r g) r
open_writing a r g = record { cancels = λ answer. refl; own = λ base o. tt; greeted = append-nil (greeting a (UploadOpen r g)); lines = refl }

-- lists by their test

-- A list that tests as empty is.
pub emptied : (us : List RdfTriple) (b : Bool) → b ≡ (length us == 0) → b ≡ true → us ≡ []
emptied us b is none = nil_from_length us (eqb-true (length us) 0 (sym is ∙ none))

-- One that does not is not.
pub filled : (us : List RdfTriple) (b : Bool) → b ≡ (length us == 0) → b ≡ false → us ≢ []
filled us b is some e = true≢false (sym (is ∙ ap (λ (z : List RdfTriple). length z == 0) e) ∙ some)

-- steps

-- One event was made, and what holds of its answer leads on.
pub made_by : {D : Type 0} (gives : D → Event → Answer → D → Type 0) (setup : Setup) (e : Bool) (p : Phase) (b c : List ℕ) (old new : D) (action : Action) (n : Next) (Holds : Answer → Type 0)
    → ((answer : Answer) → Holds answer → MakesPhase (server_of setup) e p b n.phase c action answer n.said.items) → Does gives setup.seat old action new Holds → DoesStep gives setup e p b old (Made n) c new
made_by gives setup e p b c old new action n Holds f d = (action, d.0, d.1, f d.0 d.2)

-- Nothing was done or said, and less is left to be done.
pub passes_by : (setup : Setup) (e : Bool) (p q : Phase) (b c : List ℕ) (n : Next) → Says n q [] → effort q c < effort p b
    → ((x : List ℕ) (h : Deeds) (said : List ℕ) → LeadsTo (server_of setup) e p b x h said → LeadsTo (server_of setup) e q c x h said) → Rests setup e p b (Silent n) c
passes_by setup e p q b c n y less f = (
  subst (λ (r : Phase). effort r c < effort p b) (sym y.0) less,
  λ x h said l. to_next n q [] c x h said y (subst (λ z. LeadsTo (server_of setup) e q c x h z) (sym (append-nil said)) (f x h said l)),
)

fewer : (n k m : ℕ) (b : List ℕ) → 0 < n → n ≤ length b → k ≤ m → 3 * length (drop n b) + k < 3 * length b + m
fewer n k m b some within less = omega (arith, length-drop n b, some, within, less)

-- memory was wanting
short_leads : {s : Server} {e : Bool} (a : Asked) (k : Reading TextReader) (t : Transfer) (b c x : List ℕ) (h : Deeds) (said : List ℕ) (l : LeadsTo s e (Serving a (Uploading k t)) b x h said) (cuts : List ℕ → BodyCut)
    → ((y : List ℕ) → cuts (c ++ y) ≡ l.trail.cut (b ++ y)) → ((z : List ℕ) → stages_in l.now + 0 ≤ length (cuts z).bytes + 1) → LeadsTo s e (Serving a (Failing want.Memory)) c x h said
short_leads {s} {e} a k t b c x h said l cuts f few =
    let g = l.keeps.stands in
    subst (λ (d : Deeds). LeadsTo s e (Serving a (Failing want.Memory)) c x d said) (append-nil h)
    (subst (λ z. LeadsTo s e (Serving a (Failing want.Memory)) c x (h ++ []) z) (append-nil said)
    (moved a (Uploading k t) (Failing want.Memory) (Short ∷ []) [] b c x h said l (record { cut = cuts; progress = Lacking (UploadOpen g.request g.staged) Memory }) f tt
    (ap (λ (d : Progress). progress_after a d Short) g.stands)
    (append-nil (said_so_far a l.trail.progress) ∙ ap (λ (d : Progress). said_so_far a d) g.stands)
    few (UploadOpen g.request g.staged, refl, tt)))

-- A piece was fed, and the list, which was empty, has what it gave.
pub fed_by : (k k2 : Reading TextReader) (piece : List ℕ) (before given : List RdfTriple) → before ≡ [] → FeedsPiece meaning_of_text LeadsText is_closed_text k k2 piece before given → Reads k k2 piece given
fed_by k k2 piece before given none f =
    let is : given ≡ f.feeds.given = f.feeds.grown ∙ ap (λ (us : List RdfTriple). us ++ f.feeds.given) none in
    λ means x ts d. subst (λ (us : List RdfTriple). IsFedText k2 means (x ++ piece) (ts ++ us)) (sym is) (f.feeds.fed means x ts d)

-- There was no memory to read the bytes.
pub fed_short : (setup : Setup) (e : Bool) (a : Asked) (k : Reading TextReader) (t t2 : Transfer) (bytes b : List ℕ) (n : ℕ) (m : Next) → 0 < n → n ≤ length b → GivesData t t2 b bytes n
    → Says m (Serving a (Failing want.Memory)) [] → Rests setup e (Serving a (Uploading k t)) b (Silent m) (drop n b)
fed_short setup e a k t t2 bytes b n m some within p y =
    passes_by setup e (Serving a (Uploading k t)) (Serving a (Failing want.Memory)) b (drop n b) m y (fewer n 1 2 b some within (omega arith))
    (λ x h said l. short_leads a k t b (drop n b) x h said l (λ z. with_data (l.keeps.stands.done ++ bytes) (cut_of t2 z)) (seam l.trail l.keeps.stands.done bytes b t t2 n l.keeps.stands.cut p)
    (λ z. omega (arith, l.keeps.stands.few, longer l.keeps.stands.done bytes (cut_of t2 z))))

-- The bytes were read, and gave nothing.
pub fed_on : (setup : Setup) (e : Bool) (a : Asked) (k k2 : Reading TextReader) (t t2 : Transfer) (bytes b : List ℕ) (n : ℕ) (m : Next) → 0 < n → n ≤ length b → GivesData t t2 b bytes n → Reads k k2 bytes []
    → Says m (Serving a (Uploading k2 t2)) [] → Rests setup e (Serving a (Uploading k t)) b (Silent m) (drop n b)
fed_on setup e a k k2 t t2 bytes b n m some within p r y =
    passes_by setup e (Serving a (Uploading k t)) (Serving a (Uploading k2 t2)) b (drop n b) m y (fewer n 2 2 b some within (omega arith)) (λ x h said l. reads_on a k k2 t t2 bytes b x n h said l p r)

-- The bytes were read, and what they gave was staged.
pub fed_staged : {D : Type 0} (gives : D → Event → Answer → D → Type 0) (setup : Setup) (e : Bool) (a : Asked) (k k2 : Reading TextReader) (t t2 : Transfer) (bytes b : List ℕ) (n : ℕ) (v : Listed) (old new : D) (m : Next)
    → GivesData t t2 b bytes n → 0 < length bytes → v.items ≢ [] → Reads k k2 bytes v.items → Does gives setup.seat old (act.Stage v) new (λ answer. AfterStage a (Uploading k2 t2) answer m)
    → DoesStep gives setup e (Serving a (Uploading k t)) b old (Made m) (drop n b) new
fed_staged gives setup e a k k2 t t2 bytes b n v old new m p some full r d =
    made_by gives setup e (Serving a (Uploading k t)) b (drop n b) old new (act.Stage v) m (λ answer. AfterStage a (Uploading k2 t2) answer m)
    (λ answer o x h said l. stage_leads a k k2 t t2 bytes b x n h said l p some v full r answer m o) d

-- The bytes are none of the body's.
pub passed_on : (setup : Setup) (e : Bool) (a : Asked) (k : Reading TextReader) (t t2 : Transfer) (b : List ℕ) (n : ℕ) (m : Next) → 0 < n → n ≤ length b → ((y : List ℕ) → cut_of t (b ++ y) ≡ cut_of t2 (drop n b ++ y))
    → Says m (Serving a (Uploading k t2)) [] → Rests setup e (Serving a (Uploading k t)) b (Silent m) (drop n b)
passed_on setup e a k t t2 b n m some within p y =
    fed_on setup e a k k t t2 [] b n m some within (λ y. p y)
    (λ means x ts f. subst (λ z. IsFedText k means z (ts ++ [])) (sym (append-nil x)) (subst (λ (us : List RdfTriple). IsFedText k means x us) (sym (append-nil ts)) f)) y

-- the body is over

-- the body is whole
abbrev pub IsOver : Transfer → List ℕ → Type 0
IsOver t b = (y : List ℕ) → cut_of t (b ++ y) ≡ ends (cut.Whole (b ++ y))

-- the reading's end gives these triples
abbrev pub GivesLast : Reading TextReader → List RdfTriple → Type 0
GivesLast k given = (means : List ℕ → Meaning) (x : List ℕ) (ts : List RdfTriple) → IsFedText k means x ts → MeansAll (means x) (ts ++ given)

-- The text ended, and the list, which was empty, has what its end gives.
pub ended_by : (k : Reading TextReader) (before given : List RdfTriple) → before ≡ [] → EndsWhole meaning_of_text LeadsText is_closed_text k before given → GivesLast k given
ended_by k before given none f =
    let is : given ≡ f.given = f.grown ∙ ap (λ (us : List RdfTriple). us ++ f.given) none in
    λ means x ts d. subst (λ (us : List RdfTriple). MeansAll (means x) (ts ++ us)) (sym is) (f.all means x ts d)

whole_at : {s : Server} {e : Bool} (a : Asked) (k : Reading TextReader) (t : Transfer) (b x : List ℕ) (h : Deeds) (said : List ℕ) (l : LeadsTo s e (Serving a (Uploading k t)) b x h said) → IsOver t b → IsWholeAt l l.keeps.stands.done
whole_at a k t b x h said l f y =
    l.keeps.stands.cut (b ++ y) ∙ ap (λ (c : BodyCut). with_data l.keeps.stands.done c) (f y) ∙ ap (λ z. record { bytes = z; end = cut.Whole (b ++ y) }) (append-nil l.keeps.stands.done)

-- the whole body states what was staged, with what came last
states : {s : Server} {e : Bool} (a : Asked) (k : Reading TextReader) (t : Transfer) (b x : List ℕ) (h : Deeds) (said : List ℕ) (l : LeadsTo s e (Serving a (Uploading k t)) b x h said) (given : List RdfTriple)
    → GivesLast k given → States s.base a l.keeps.stands.request l.keeps.stands.done (l.keeps.stands.staged ++ given)
states {s} a k t b x h said l given f =
    let g = l.keeps.stands in
    let all = f (meaning_in (document_language a.body) (text_base s.base a.graph) g.request) g.done g.staged g.fed in
    (all.whole, sym all.all)

-- There was no memory for what the end of the body gives.
pub end_short : (setup : Setup) (e : Bool) (a : Asked) (k : Reading TextReader) (t : Transfer) (b : List ℕ) (m : Next) → Says m (Serving a (Failing want.Memory)) [] → Rests setup e (Serving a (Uploading k t)) b (Silent m) b
end_short setup e a k t b m y =
    passes_by setup e (Serving a (Uploading k t)) (Serving a (Failing want.Memory)) b b m y (omega arith)
    (λ x h said l. short_leads a k t b b x h said l l.trail.cut (λ y. refl) (no_more a (Uploading k t) b x h said l))

-- The body is whole, and all that it gives is staged: the Commit is due.
pub end_staged : (setup : Setup) (e : Bool) (a : Asked) (k : Reading TextReader) (t : Transfer) (b : List ℕ) (m : Next) → IsOver t b → GivesLast k [] → Says m (Serving a Committing) []
    → Rests setup e (Serving a (Uploading k t)) b (Silent m) b
end_staged setup e a k t b m over all y =
    passes_by setup e (Serving a (Uploading k t)) (Serving a Committing) b b m y (omega arith)
    (λ x h said l.
    let g = l.keeps.stands in
    silent (Serving a (Uploading k t)) (Serving a Committing) b b x h said l (whole_trail g.done (UploadOpen g.request g.staged))
    (λ y. ap (λ (c : BodyCut). by_body (requests setup.site) a c) (sym (whole_at a k t b x h said l over y)))
    (record {
      suits = l.keeps.suits;
      came = l.keeps.came ∙ g.stands;
      said = l.keeps.said ∙ ap (λ (c : Progress). said_so_far a c) g.stands;
      few = λ z. omega (arith, g.few);
      stands = (g.request, g.done, g.staged, refl, subst (λ (ts : List RdfTriple). States setup.site a g.request g.done ts) (append-nil g.staged) (states a k t b x h said l [] all), λ z. refl);
    }) (λ i. i))

-- The body is whole, and the last that it gives is staged.
pub end_gives : {D : Type 0} (gives : D → Event → Answer → D → Type 0) (setup : Setup) (e : Bool) (a : Asked) (k : Reading TextReader) (t : Transfer) (b : List ℕ) (v : Listed) (old new : D) (m : Next)
    → IsOver t b → GivesLast k v.items → v.items ≢ [] → Does gives setup.seat old (act.Stage v) new (λ answer. AfterStage a Committing answer m) → DoesStep gives setup e (Serving a (Uploading k t)) b old (Made m) b new
end_gives gives setup e a k t b v old new m over all full d =
    made_by gives setup e (Serving a (Uploading k t)) b b old new (act.Stage v) m (λ answer. AfterStage a Committing answer m)
    (λ answer o x h said l.
    let g = l.keeps.stands in
    stage_last a (Uploading k t) g.request g.staged v answer b x h said g.done l g.stands (whole_at a k t b x h said l over) g.few
    (λ z. omega (arith, ap (λ (c : BodyCut). length c.bytes) (g.cut z), length-append g.done (cut_of t z).bytes)) (states a k t b x h said l v.items all) full m o) d

-- The body has a fault: the upload is cancelled, and the reply says so.
pub end_faulty : {D : Type 0} (gives : D → Event → Answer → D → Type 0) (setup : Setup) (e : Bool) (a : Asked) (k : Reading TextReader) (t : Transfer) (b : List ℕ) (fault : Refusal) (old new : D) (m : Next)
    → IsOver t b → ((means : List ℕ → Meaning) (x : List ℕ) (ts : List RdfTriple) → IsFedText k means x ts → HasFault fault (means x))
    → Does gives setup.seat old act.Cancel new (λ answer. AfterCancel 400 a.closes answer m) → DoesStep gives setup e (Serving a (Uploading k t)) b old (Made m) b new
end_faulty gives setup e a k t b fault old new m over first d =
    made_by gives setup e (Serving a (Uploading k t)) b b old new act.Cancel m (λ answer. AfterCancel 400 a.closes answer m)
    (λ answer o x h said l.
    let g = l.keeps.stands in
    let is = upload_plan a l.now g.request g.staged (l.keeps.came ∙ g.stands) in
    let means = meaning_in (document_language a.body) (text_base setup.site a.graph) g.request in
    drop_leads a (Uploading k t) (UploadOpen g.request g.staged) g.request 400 answer b x h said g.done l g.stands (open_writing a g.request g.staged) (whole_at a k t b x h said l over)
    (ap (λ (p : Plan). refusal_at setup.site a p g.request g.done) is.2 ∙ refused_body fault (means g.done) (first means g.done g.staged g.fed)) m o) d

-- The transfer of the body has a fault: the upload is cancelled, and the reply says so.
pub transfer_faulty : {D : Type 0} (gives : D → Event → Answer → D → Type 0) (setup : Setup) (e : Bool) (a : Asked) (k : Reading TextReader) (t : Transfer) (b : List ℕ) (st : ℕ) (old new : D) (m : Next)
    → ((y : List ℕ) → cut_of t (b ++ y) ≡ ends (cut.Faulty st)) → Does gives setup.seat old act.Cancel new (λ answer. AfterCancel st true answer m) → DoesStep gives setup e (Serving a (Uploading k t)) b old (Made m) b new
transfer_faulty gives setup e a k t b st old new m faulty d =
    made_by gives setup e (Serving a (Uploading k t)) b b old new act.Cancel m (λ answer. AfterCancel st true answer m)
    (λ answer o x h said l.
    let g = l.keeps.stands in
    fault_leads a (Uploading k t) (UploadOpen g.request g.staged) g.request st (g.done ++ []) answer b x h said l g.stands (open_writing a g.request g.staged)
    (λ y. g.cut (b ++ y) ∙ ap (λ (c : BodyCut). with_data g.done c) (faulty y)) m o) d

-- The input ended in the body: the upload is cancelled.
pub input_ended : {D : Type 0} (gives : D → Event → Answer → D → Type 0) (setup : Setup) (e : Bool) (a : Asked) (k : Reading TextReader) (t : Transfer) (b : List ℕ) (old new : D) (m : Next)
    → e ≡ true → cut_of t b ≡ ends cut.Open → Does gives setup.seat old act.Cancel new (λ answer. Stops m) → DoesStep gives setup e (Serving a (Uploading k t)) b old (Made m) b new
input_ended {D} gives setup e a k t b old new m f open_at d =
    subst (λ v. DoesStep gives setup v (Serving a (Uploading k t)) b old (Made m) b new) (sym f)
    (made_by gives setup true (Serving a (Uploading k t)) b b old new act.Cancel m (λ answer. Stops m)
    (λ answer o x h said l.
    let g = l.keeps.stands in
    leave_leads a (Uploading k t) (UploadOpen g.request g.staged) g.request (g.done ++ []) answer b x h said l g.stands (open_writing a g.request g.staged)
    (g.cut (b ++ []) ∙ ap (λ (z : List ℕ). with_data g.done (cut_of t z)) (append-nil b) ∙ ap (λ (c : BodyCut). with_data g.done c) open_at) m o) d)
