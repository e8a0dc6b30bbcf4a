-- How a PATCH and a DELETE are read back, by the events of their seat (SPARQL 1.1 Graph Store HTTP Protocol, sections 5.4 and 5.7).
use Rattle.std.specs.Prelude.{◌≡◌, ℕ, true, List, [], ◌∷◌, ◌++◌, Vec, Option}
use Rattle.std.specs.declared.alloc.Global.{Global}
use Rattle.gs_model.specs.Graphs.{lines_of}
use Rattle.gs_term.specs.declared.names.Target.{Target}
use Rattle.gs_event.specs.declared.updates.Op.{Op}
use Rattle.gs_event.specs.declared.events.Action.TheVariants.{OpenPatch, CommitPatch, Delete}
use Rattle.gs_event.specs.declared.events.Event.TheVariants.{Seat as At}
use Rattle.gs_event.specs.declared.answers.Answer.TheVariants.{Opened, Status}
use Rattle.gs_event.specs.Updates.{patched}
use Rattle.gs_event.specs.Datasets.{graph_at}
use Rattle.gs_event.specs.Operations.{is_success}
use Rattle.gs_event.specs.Histories.{History, Start, IsLegal, dataset_after}
use Rattle.gs_protocol_laws.specs.Writes.{status_without}
use Rattle.gs_protocol_laws.specs.ReadBack.{SpareSince, Shows}
use Rattle.gs_protocol_laws.specs.GivenUp.{LeaveUpload}

-- A whole patch: the seat opened it, under a request number; among events of other seats it was not given up; and after all these its
-- operations were committed, and answered 201 or 204.
pub record IsWholePatch (seat : ℕ) (t : Target) (before_commit whole : History) (ops : Vec Op Global) : Type 0 where
  pub before : History
  pub since : History
  pub request : ℕ
  pub status : ℕ
  pub name : Option (List ℕ)
  pub number : ℕ
  pub condition : Option ℕ
  pub opened : before_commit ≡ since ++ (At seat (OpenPatch t condition), Opened request) ∷ before
  pub events : whole ≡ (At seat (CommitPatch ops), Status status name number) ∷ before_commit
  pub goes_on : LeaveUpload seat since
  pub success : is_success status ≡ true

-- after these events a DELETE was answered 201 or 204
pub record IsWholeDelete (seat : ℕ) (t : Target) (before whole : History) : Type 0 where
  pub status : ℕ
  pub name : Option (List ℕ)
  pub number : ℕ
  pub condition : Option ℕ
  pub events : whole ≡ (At seat (Delete t condition), Status status name number) ∷ before
  pub success : is_success status ≡ true

-- A PATCH is read back: what its operations make of the graph that was there before its commit.
abbrev pub WholePatchesAreReadBack : Type 0
WholePatchesAreReadBack = (start : Start) (before whole later : History) (seat : ℕ) (t : Target) (ops : Vec Op Global) → IsWholePatch seat t before whole ops
    → IsLegal start (later ++ whole) → SpareSince start t whole later
    → Shows start (later ++ whole) t 200 (lines_of (patched (graph_at (dataset_after start before) t) ops.items))

-- So is a DELETE: 404 for a named graph, and for the default graph 200 and no line.
abbrev pub WholeDeletesAreReadBack : Type 0
WholeDeletesAreReadBack = (start : Start) (before whole later : History) (seat : ℕ) (t : Target) → IsWholeDelete seat t before whole
    → IsLegal start (later ++ whole) → SpareSince start t whole later → Shows start (later ++ whole) t (status_without t) []
