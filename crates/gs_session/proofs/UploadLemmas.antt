-- The steps of an upload.
use Rattle.std.proofs.Common.{◌≡◌, ◌≢◌, ◌+◌, ◌≤◌, ◌<◌, arith, ℕ, Bool, List, [], ◌∷◌, ◌++◌, length, drop, refl, sym, ap, subst, ◌∙◌, append-nil, append_assoc, length-append}
use Rattle.gs_model.specs.Triples.{RdfTriple}
use Rattle.gs_model.specs.declared.refusals.Refusal.TheVariants as why
use Rattle.gs_body.specs.Bodies.{Meaning}
use Rattle.gs_triple_lists.specs.Lists.{Listed}
use Rattle.gs_event.specs.declared.events.Action.TheVariants as act
use Rattle.gs_event.specs.declared.answers.Answer.{Answer}
use Rattle.gs_event.specs.declared.answers.Answer.TheVariants.{Staged, Refused}
use Rattle.gs_transfer.specs.Cuts.{BodyCut, with_data}
use Rattle.gs_transfer.specs.Views.{cut_of}
use Rattle.gs_transfer.specs.declared.places.Transfer.{Transfer}
use Rattle.gs_upload.specs.declared.readings.Reading.{Reading}
use Rattle.gs_upload.specs.declared.readers.TextReader.{TextReader}
use Rattle.gs_upload.specs.Languages.{meaning_in}
use Rattle.gs_upload.specs.Readers.{IsFedText}
use Rattle.gs_verdict.specs.declared.verdicts.Asked.{Asked}
use Rattle.gs_stream.specs.Requests.{by_body, requests}
use Rattle.gs_talk.specs.Bodies.{document_language, text_base}
use Rattle.gs_talk.specs.Progress.{Did, Progress, UploadOpen, Lacking, Memory}
use Rattle.gs_talk.specs.Moves.{progress_after, at_stage}
use Rattle.gs_talk.specs.Seats.{Deeds}
use Rattle.gs_talk.specs.Replies.{said_so_far}
use Rattle.gs_talk.specs.Logs.{Server, stages_in}
use Rattle.gs_session.specs.declared.phases.Phase.TheVariants.{Serving}
use Rattle.gs_session.specs.declared.phases.Work.TheVariants.{Uploading, Failing}
use Rattle.gs_session.specs.declared.phases.Want.TheVariants as want
use Rattle.gs_session.specs.declared.outcomes.Next.{Next}
use Rattle.gs_session.specs.Trails.{Trail, IsReading, IsCutBy}
use Rattle.gs_session.specs.Leads.{LeadsTo}
use Rattle.gs_session.specs.Steps.{GivesData}
use Rattle.gs_session.specs.Outcomes.{AfterStage}
use Rattle.gs_session.proofs.MoveLemmas.{silent, moved}
use Rattle.gs_session.proofs.ReplyLemmas.{broke, to_next}

-- bytes were read, and gave these triples
abbrev pub Reads : Reading TextReader → Reading TextReader → List ℕ → List RdfTriple → Type 0
Reads k k2 bytes given = (means : List ℕ → Meaning) (x : List ℕ) (ts : List RdfTriple) → IsFedText k means x ts → IsFedText k2 means (x ++ bytes) (ts ++ given)

with-bytes : (d f : List ℕ) (c : BodyCut) → with_data (d ++ f) c ≡ with_data d (with_data f c)
with-bytes d f c = ap (λ z. record { bytes = z; end = c.end }) (append_assoc d f c.bytes)

-- the trail of a body of which so much came
abbrev pub part_trail : List ℕ → Transfer → Progress → Trail
part_trail done t c = record { cut = λ z. with_data done (cut_of t z); progress = c }

-- more of a body came
pub seam : (t : Trail) (done bytes b : List ℕ) (old new : Transfer) (n : ℕ) → IsCutBy t done old → GivesData old new b bytes n → (y : List ℕ) → with_data (done ++ bytes) (cut_of new (drop n b ++ y)) ≡ t.cut (b ++ y)
seam t done bytes b old new n is p y = with-bytes done bytes (cut_of new (drop n b ++ y)) ∙ ap (with_data done) (sym (p y)) ∙ sym (is (b ++ y))

-- what came is a part of the body
pub longer : (done bytes : List ℕ) (c : BodyCut) → length done ≤ length (with_data (done ++ bytes) c).bytes
longer done bytes c = omega (arith, length-append (done ++ bytes) c.bytes, length-append done bytes)

-- What came was read, and gave nothing.
pub reads_on : {s : Server} {e : Bool} (a : Asked) (k k2 : Reading TextReader) (t t2 : Transfer) (bytes b x : List ℕ) (n : ℕ) (h : Deeds) (said : List ℕ) (l : LeadsTo s e (Serving a (Uploading k t)) b x h said)
    → GivesData t t2 b bytes n → Reads k k2 bytes [] → LeadsTo s e (Serving a (Uploading k2 t2)) (drop n b) x h said
reads_on {s} a k k2 t t2 bytes b x n h said l p r =
    let g = l.keeps.stands in
    silent (Serving a (Uploading k t)) (Serving a (Uploading k2 t2)) b (drop n b) x h said l (part_trail (g.done ++ bytes) t2 (UploadOpen g.request g.staged))
    (λ y. ap (λ (c : BodyCut). by_body (requests s.base) a c) (seam l.trail g.done bytes b t t2 n g.cut p y))
    (record {
      suits = l.keeps.suits;
      came = l.keeps.came ∙ g.stands;
      said = l.keeps.said ∙ ap (λ (c : Progress). said_so_far a c) g.stands;
      few = λ z. omega (arith, g.few, longer g.done bytes (cut_of t2 z));
      stands = record {
        request = g.request;
        done = g.done ++ bytes;
        staged = g.staged;
        stands = refl;
        fed = subst (λ (ts : List RdfTriple). IsFedText k2 (meaning_in (document_language a.body) (text_base s.base a.graph) g.request) (g.done ++ bytes) ts) (append-nil g.staged)
            (r (meaning_in (document_language a.body) (text_base s.base a.graph) g.request) g.done g.staged g.fed);
        cut = λ z. refl;
        few = omega (arith, g.few, length-append g.done bytes);
      };
    }) (λ i. i)

-- What came was read, and what it gave was staged.
pub stage_leads : {s : Server} {e : Bool} (a : Asked) (k k2 : Reading TextReader) (t t2 : Transfer) (bytes b x : List ℕ) (n : ℕ) (h : Deeds) (said : List ℕ) (l : LeadsTo s e (Serving a (Uploading k t)) b x h said)
    → GivesData t t2 b bytes n → 0 < length bytes → (v : Listed) → v.items ≢ [] → Reads k k2 bytes v.items
    → (answer : Answer) (m : Next) → AfterStage a (Uploading k2 t2) answer m → LeadsTo s e m.phase (drop n b) x (h ++ (act.Stage v, answer) ∷ []) (said ++ m.said.items)
stage_leads {s} {e} a k k2 t t2 bytes b x n h said l p some v full r answer m o = go v.items refl full answer o
  where
    g : IsReading s.base a k t l.trail (stages_in l.now)
    g = l.keeps.stands

    same : said_so_far a l.trail.progress ++ [] ≡ said_so_far a (UploadOpen g.request (g.staged ++ v.items))
    same = append-nil (said_so_far a l.trail.progress) ∙ ap (λ (c : Progress). said_so_far a c) g.stands

    few : (z : List ℕ) → stages_in l.now + 1 ≤ length (with_data (g.done ++ bytes) (cut_of t2 z)).bytes + 1
    few z = omega (arith, g.few, longer g.done bytes (cut_of t2 z))

    go : (us : List RdfTriple) → v.items ≡ us → us ≢ [] → (answer : Answer) → AfterStage a (Uploading k2 t2) answer m → LeadsTo s e m.phase (drop n b) x (h ++ (act.Stage v, answer) ∷ []) (said ++ m.said.items)
    go [] is full answer o = absurd (full refl)
    go (u ∷ us) is full Staged o =
        to_next m (Serving a (Uploading k2 t2)) [] (drop n b) x (h ++ (act.Stage v, Staged) ∷ []) said o
        (moved a (Uploading k t) (Uploading k2 t2) (Did (act.Stage v) Staged ∷ []) [] b (drop n b) x h said l (part_trail (g.done ++ bytes) t2 (UploadOpen g.request (g.staged ++ v.items)))
        (seam l.trail g.done bytes b t t2 n g.cut p) (tt, tt)
        (ap (λ (c : Progress). progress_after a c (Did (act.Stage v) Staged)) g.stands ∙ ap (λ w. at_stage g.request g.staged w Staged) is ∙ ap (λ w. UploadOpen g.request (g.staged ++ w)) (sym is))
        same few
        (record {
          request = g.request;
          done = g.done ++ bytes;
          staged = g.staged ++ v.items;
          stands = refl;
          fed = r (meaning_in (document_language a.body) (text_base s.base a.graph) g.request) g.done g.staged g.fed;
          cut = λ z. refl;
          few = omega (arith, g.few, some, length-append g.done bytes);
        }))
    go (u ∷ us) is full (Refused why.NoMemory) o =
        to_next m (Serving a (Failing want.Memory)) [] (drop n b) x (h ++ (act.Stage v, Refused why.NoMemory) ∷ []) said o
        (moved a (Uploading k t) (Failing want.Memory) (Did (act.Stage v) (Refused why.NoMemory) ∷ []) [] b (drop n b) x h said l (part_trail (g.done ++ bytes) t2 (Lacking (UploadOpen g.request g.staged) Memory))
        (seam l.trail g.done bytes b t t2 n g.cut p) (tt, tt)
        (ap (λ (c : Progress). progress_after a c (Did (act.Stage v) (Refused why.NoMemory))) g.stands ∙ ap (λ w. at_stage g.request g.staged w (Refused why.NoMemory)) is)
        same few (UploadOpen g.request g.staged, refl, tt))
    go (u ∷ us) is full other o =
        broke a (Uploading k t) (Did (act.Stage v) other) (UploadOpen g.request g.staged) b (drop n b) x h said l (tt, tt) g.stands (ap (λ w. at_stage g.request g.staged w other) is) (λ o. tt)
        (λ z. omega (arith, g.few, ap (λ (c : BodyCut). length c.bytes) (g.cut z), length-append g.done (cut_of t z).bytes)) m o
