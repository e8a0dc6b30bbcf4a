-- How many triples an update adds and takes out, and how many nodes and records a step takes into use, at most.
use Rattle.std.specs.Prelude.{◌≡◌, ◌≤◌, ℕ, Bool, ◌+◌, ◌*◌, if◌then◌else◌, List, length, Option, Some, None}
use Rattle.std.specs.List.{slice_get}
use Rattle.gs_model.specs.Graphs.{Graph, size_of}
use Rattle.gs_event.specs.declared.events.UploadKind.{UploadKind}
use Rattle.gs_event.specs.declared.events.UploadKind.TheVariants.{Put, Post, New}
use Rattle.gs_event.specs.declared.events.Action.{Action}
use Rattle.gs_event.specs.declared.events.Action.TheVariants.{Open, OpenPatch, Stage, Commit, CommitPatch}
use Rattle.gs_event.specs.declared.events.Event.{Event}
use Rattle.gs_event.specs.declared.events.Event.TheVariants.{Seat as At, Reclaim}
use Rattle.gs_event.specs.declared.answers.Answer.{Answer}
use Rattle.gs_event.specs.declared.answers.Answer.TheVariants.{Opened, Staged, Status, Reclaimed}
use Rattle.gs_event.specs.declared.updates.Op.{Op}
use Rattle.gs_event.specs.declared.updates.Op.TheVariants.{Insert, DeleteData, DeleteWhere}
use Rattle.gs_event.specs.Updates.{inserted_count, removed, updated, inserted_by, removed_by}
use Rattle.gs_event.specs.Datasets.{Dataset, graph_at}
use Rattle.gs_event.specs.Operations.{is_success}
use Rattle.gs_event.specs.Phases.{Idle, Writing, Patching}
use Rattle.gs_event.specs.Views.{SeatView}
use Rattle.gs_event.specs.Waste.{Shown, nodes_in}
use Rattle.gs_event.specs.Steps.{Steps}

-- the triples that a graph had and those that came are as many as it has after the update and those that went
abbrev pub AddsUp : Graph → List Op → Type 0
AddsUp g ops = size_of (updated g ops) + removed_by g ops ≡ size_of g + inserted_by g ops

-- an INSERT DATA takes no triple out, and a DELETE DATA or a DELETE WHERE adds none
abbrev pub GoesOneWay : Graph → Op → Type 0
GoesOneWay g (Insert ts) = removed g (Insert ts) ≡ 0
GoesOneWay g (DeleteData ts) = inserted_count g (DeleteData ts) ≡ 0
GoesOneWay g (DeleteWhere ps) = inserted_count g (DeleteWhere ps) ≡ 0

-- the most nodes that an upload of g takes into use where it took effect: a PUT none, and a POST and a new
-- graph 260 for each triple of g
abbrev pub most_for_upload : UploadKind → Graph → ℕ
most_for_upload (Put t) g = 0
most_for_upload (Post t) g = 260 * size_of g
most_for_upload New g = 260 * size_of g

-- the same of an update of a graph: 260 for each triple that comes to it or goes from it on the way
abbrev pub most_for_update : Option Graph → List Op → ℕ
most_for_update None ops = 0
most_for_update (Some g) ops = 260 * (inserted_by g ops + removed_by g ops)

-- The most nodes and records that an action which was answered so takes into use: a record that is opened, a node for each
-- triple that is staged, the nodes of a commit where it took effect, and else none.
abbrev pub most_taken_at : Dataset → SeatView → Action → Answer → ℕ
most_taken_at m Idle (Open k since) (Opened r) = 1
most_taken_at m Idle (OpenPatch t since) (Opened r) = 1
most_taken_at m (Writing k r g since) (Stage ts) Staged = length ts.items
most_taken_at m (Writing k r g since) Commit (Status s name number) = if is_success s then most_for_upload k g else 0
most_taken_at m (Patching t r since) (CommitPatch ops) (Status s name number) =
    if is_success s then most_for_update (graph_at m t) ops.items else 0
most_taken_at m p action a = 0

-- the same, where there may be no such seat
abbrev pub most_taken_if : Dataset → Option SeatView → Action → Answer → ℕ
most_taken_if m None action a = 0
most_taken_if m (Some p) action a = most_taken_at m p action a

-- the most nodes and records that an event which was answered so takes into use
abbrev pub most_taken : Shown → Event → Answer → ℕ
most_taken old (Reclaim n) a = 0
most_taken old (At s action) a = most_taken_if old.view.totals.dataset (slice_get old.view.seats s) action a

-- a step takes no more into use
abbrev pub TakesFew : Shown → Event → Answer → Shown → Type 0
TakesFew old e a new = Steps old e a new → nodes_in new ≤ nodes_in old + most_taken old e a

-- what a Reclaim frees is no more in use
abbrev pub GivesBack : Shown → ℕ → ℕ → Bool → Shown → Type 0
GivesBack old n freed left new =
    Steps old (Reclaim n) (Reclaimed freed left) new → nodes_in new + freed ≡ nodes_in old
