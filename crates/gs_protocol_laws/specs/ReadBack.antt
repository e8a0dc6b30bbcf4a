-- How each write is read back, in a history of the events of all seats (SPARQL 1.1 Graph Store HTTP Protocol, section 5).
use Rattle.std.specs.Prelude.{◌≡◌, ℕ, true, List, [], ◌∷◌, ◌++◌, Option, Some, None, IfSome}
use Rattle.std.specs.List.{concat}
use Rattle.gs_model.specs.Graphs.{Graph, lines_of}
use Rattle.gs_term.specs.declared.names.Target.{Target}
use Rattle.gs_term.specs.declared.names.Target.TheVariants.{Named}
use Rattle.gs_event.specs.declared.events.Scope.TheVariants.{One}
use Rattle.gs_event.specs.declared.events.Action.TheVariants.{Head, Pin}
use Rattle.gs_event.specs.declared.events.Event.{Event}
use Rattle.gs_event.specs.declared.events.Event.TheVariants.{Seat as At}
use Rattle.gs_event.specs.declared.answers.Answer.{Answer}
use Rattle.gs_event.specs.declared.answers.Answer.TheVariants.{Status, Pinned}
use Rattle.gs_event.specs.declared.updates.Op.{Op}
use Rattle.gs_event.specs.Updates.{patched}
use Rattle.gs_event.specs.Datasets.{graph_at}
use Rattle.gs_event.specs.Conditions.{asked_since}
use Rattle.gs_event.specs.Operations.{Operation, Puts, Posts, Creates, Patches, Deletes, united}
use Rattle.gs_event.specs.Verdicts.{operation_target}
use Rattle.gs_event.specs.Views.{is_written}
use Rattle.gs_event.specs.Histories.{History, Start, IsLegal, dataset_after, operation_by}
use Rattle.gs_protocol_laws.specs.Writes.{status_without}
use Rattle.gs_protocol_laws.specs.Reads.{IsWholeGet}

-- after the events before, this one asked this write of the store, on whatever condition, and was answered 201 or 204
pub record IsWrite (before : History) (x : Event × Answer) (q : Operation) : Type 0 where
  pub condition : Option ℕ
  pub asks : operation_by before x.0 x.1 ≡ Some (asked_since condition q)
  pub success : is_written x.1 ≡ true

-- none of the later events, of whichever seat, was a write of the target that was answered 201 or 204
abbrev pub SpareSince : Start → Target → History → History → Type 0
SpareSince start t before [] = Unit {0}
SpareSince start t before (x ∷ later) = SpareSince start t before later
    × IfSome (operation_by (later ++ before) x.0 x.1)
    (λ q. is_written x.1 ≡ true → operation_target start.setting (dataset_after start (later ++ before)) q.operation ≡ Some t → ⊥)

-- After this history a HEAD and a GET of the target are answered with this status, and a GET is given these lines and nothing else. It
-- says which answer is legal, not that one comes.
pub record Shows (start : Start) (h : History) (t : Target) (status : ℕ) (lines : List (List ℕ)) : Type 0 where
  pub head : (seat s number : ℕ) (name : Option (List ℕ)) → IsLegal start ((At seat (Head (One t)), Status s name number) ∷ h) → s ≡ status
  pub get : (seat s number : ℕ) → IsLegal start ((At seat (Pin (One t)), Pinned s number) ∷ h) → s ≡ status
  pub given : (seat : ℕ) (whole : History) (bytes : List ℕ) → IsLegal start whole → IsWholeGet seat (One t) h whole bytes → bytes ≡ concat lines

-- Where the event did this write, and no later one wrote the target, that is what is shown of it.
abbrev pub IsReadBack : Start → History → Event × Answer → Operation → Target → ℕ → List (List ℕ) → Type 0
IsReadBack start before x q t status lines = (later : History) → IsLegal start (later ++ x ∷ before) → IsWrite before x q
    → SpareSince start t (x ∷ before) later → Shows start (later ++ x ∷ before) t status lines

-- A PUT is read back: 200, and the lines of its graph.
abbrev pub PutsAreReadBack : Type 0
PutsAreReadBack = (start : Start) (before : History) (x : Event × Answer) (t : Target) (g : Graph)
    → IsReadBack start before x (Puts t g) t 200 (lines_of g)

-- So is a POST: the lines of its graph and of what was there before it.
abbrev pub PostsAreReadBack : Type 0
PostsAreReadBack = (start : Start) (before : History) (x : Event × Answer) (t : Target) (g : Graph)
    → IsReadBack start before x (Posts t g) t 200 (lines_of (united (graph_at (dataset_after start before) t) g))

-- the name that an answer gives
abbrev pub name_answered : Answer → Option (List ℕ)
name_answered (Status s name number) = name
name_answered a = None

-- So is a new graph, under the name that was answered.
abbrev pub CreatesAreReadBack : Type 0
CreatesAreReadBack = (start : Start) (before : History) (x : Event × Answer) (r : ℕ) (g : Graph) (name : List ℕ)
    → name_answered x.1 ≡ Some name → IsReadBack start before x (Creates r g) (Named name) 200 (lines_of g)

-- So is a PATCH: what its update makes of what was there before it.
abbrev pub PatchesAreReadBack : Type 0
PatchesAreReadBack = (start : Start) (before : History) (x : Event × Answer) (t : Target) (ops : List Op)
    → IsReadBack start before x (Patches t ops) t 200 (lines_of (patched (graph_at (dataset_after start before) t) ops))

-- And a DELETE: 404 for a named graph, and for the default graph 200 and no line.
abbrev pub DeletesAreReadBack : Type 0
DeletesAreReadBack = (start : Start) (before : History) (x : Event × Answer) (t : Target)
    → IsReadBack start before x (Deletes t) t (status_without t) []

-- Two whole GETs between whose pins nothing wrote the target are given the same bytes.
abbrev pub GetsAgree : Type 0
GetsAgree = (start : Start) (before later whole whole_later : History) (seat seat_later : ℕ) (t : Target) (bytes bytes_later : List ℕ)
    → IsLegal start whole → IsLegal start whole_later → SpareSince start t before later
    → IsWholeGet seat (One t) before whole bytes → IsWholeGet seat_later (One t) (later ++ before) whole_later bytes_later → bytes_later ≡ bytes
