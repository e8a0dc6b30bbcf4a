-- What an upload brings, by the events of its seat, and how it is read back (SPARQL 1.1 Graph Store HTTP Protocol, sections 5.3 and 5.5).
use Rattle.std.specs.Prelude.{◌≡◌, ℕ, nat_eq, true, cond, List, [], ◌∷◌, ◌++◌, Option, Some}
use Rattle.gs_model.specs.Triples.{RdfTriple}
use Rattle.gs_model.specs.Graphs.{Graph, graph_of, lines_of}
use Rattle.gs_term.specs.declared.names.Target.{Target}
use Rattle.gs_term.specs.declared.names.Target.TheVariants.{Named}
use Rattle.gs_event.specs.declared.events.UploadKind.{UploadKind}
use Rattle.gs_event.specs.declared.events.UploadKind.TheVariants.{Put, Post, New}
use Rattle.gs_event.specs.declared.events.Action.{Action}
use Rattle.gs_event.specs.declared.events.Action.TheVariants.{Open, Stage, Commit}
use Rattle.gs_event.specs.declared.events.Event.{Event}
use Rattle.gs_event.specs.declared.events.Event.TheVariants.{Seat as At, Reclaim}
use Rattle.gs_event.specs.declared.answers.Answer.{Answer}
use Rattle.gs_event.specs.declared.answers.Answer.TheVariants.{Opened, Staged, Status}
use Rattle.gs_event.specs.Datasets.{graph_at}
use Rattle.gs_event.specs.Operations.{united, is_success}
use Rattle.gs_event.specs.Histories.{History, Start, IsLegal, dataset_after}
use Rattle.gs_protocol_laws.specs.ReadBack.{SpareSince, Shows}
use Rattle.gs_protocol_laws.specs.GivenUp.{LeaveUpload}

-- the triples that an action brought; a stage that was refused brought none
abbrev pub triples_brought : Action → Answer → List RdfTriple
triples_brought (Stage ts) Staged = ts.items
triples_brought action a = []

-- those that a seat's event brought
abbrev pub event_triples : ℕ → Event → Answer → List RdfTriple
event_triples seat (Reclaim n) a = []
event_triples seat (At s action) a = cond (nat_eq s seat) (triples_brought action a) []

-- all that a seat brought by these events, in their order
abbrev pub triples_from : ℕ → History → List RdfTriple
triples_from seat [] = []
triples_from seat (x ∷ before) = triples_from seat before ++ event_triples seat x.0 x.1

-- A whole upload: after the events before, the seat opened it, under a request number; it staged triples since, among events of
-- other seats, and just now its commit was answered 201 or 204. Its graph is of all that it staged.
pub record IsWholeUpload (seat : ℕ) (kind : UploadKind) (before whole : History) (name : Option (List ℕ)) (g : Graph) : Type 0 where
  pub since : History
  pub request : ℕ
  pub condition : Option ℕ
  pub status : ℕ
  pub number : ℕ
  pub events : whole ≡ (At seat Commit, Status status name number) ∷ (since ++ (At seat (Open kind condition), Opened request) ∷ before)
  pub goes_on : LeaveUpload seat since
  pub success : is_success status ≡ true
  pub brought : g ≡ graph_of (triples_from seat since)

-- After an upload, and later events of which none wrote the target, a HEAD and a GET are answered 200, and a GET is given these lines.
abbrev pub IsShownAfter : Start → History → Target → Graph → Type 0
IsShownAfter start whole t g = (later : History) → IsLegal start (later ++ whole) → SpareSince start t whole later
    → Shows start (later ++ whole) t 200 (lines_of g)

-- the history before the commit of an upload, which is the newest event
abbrev pub before_commit : History → History
before_commit [] = []
before_commit (x ∷ before) = before

-- What was uploaded by a PUT is read back.
abbrev pub PutUploadsAreReadBack : Type 0
PutUploadsAreReadBack = (start : Start) (before whole : History) (seat : ℕ) (t : Target) (name : Option (List ℕ)) (g : Graph)
    → IsWholeUpload seat (Put t) before whole name g → IsShownAfter start whole t g

-- So is what was uploaded by a POST, with what was there before its commit.
abbrev pub PostUploadsAreReadBack : Type 0
PostUploadsAreReadBack = (start : Start) (before whole : History) (seat : ℕ) (t : Target) (name : Option (List ℕ)) (g : Graph)
    → IsWholeUpload seat (Post t) before whole name g
    → IsShownAfter start whole t (united (graph_at (dataset_after start (before_commit whole)) t) g)

-- So is a new graph, under the name that was answered.
abbrev pub NewUploadsAreReadBack : Type 0
NewUploadsAreReadBack = (start : Start) (before whole : History) (seat : ℕ) (name : List ℕ) (g : Graph)
    → IsWholeUpload seat New before whole (Some name) g → IsShownAfter start whole (Named name) g
