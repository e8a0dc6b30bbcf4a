-- What an action makes of births, and of the waste of nodes and of records: what joins it, and with which lifetimes.
use Rattle.std.specs.Prelude.{◌≡◌, ◌≢◌, ◌<◌, ◌≤◌, ◌⊎◌, ℕ, ◌+◌, ◌*◌, Bool, true, false, List, length, Option, Some, None}
use Rattle.std.specs.List.{sum_by, All}
use Rattle.gs_model.specs.Graphs.{Graph, size_of}
use Rattle.gs_term.specs.declared.names.Target.{Target}
use Rattle.gs_event.specs.declared.events.UploadKind.{UploadKind}
use Rattle.gs_event.specs.declared.events.UploadKind.TheVariants.{Put, Post, New}
use Rattle.gs_event.specs.declared.events.Action.{Action}
use Rattle.gs_event.specs.declared.events.Action.TheVariants.{Commit, CommitPatch, Delete, Cancel}
use Rattle.gs_event.specs.declared.answers.Answer.{Answer}
use Rattle.gs_event.specs.declared.answers.Answer.TheVariants.{Status, Cancelled}
use Rattle.gs_event.specs.declared.updates.Op.{Op}
use Rattle.gs_event.specs.Updates.{inserted_by, removed_by, patched}
use Rattle.gs_event.specs.Datasets.{graph_at, size_at, records_at, unused_for}
use Rattle.gs_event.specs.Operations.{is_success, united}
use Rattle.gs_event.specs.Conditions.{last_write_on}
use Rattle.gs_event.specs.Phases.{Writing, Patching}
use Rattle.gs_event.specs.Views.{Totals, SeatView}
use Rattle.gs_event.specs.Births.{NodeBirths, births_at, staged_births}
use Rattle.gs_event.specs.Waste.{Lifetime, Shown}
use Rattle.gs_event.specs.Born.{AreSameBirths, Bearing, Bears, HasSameBirths}

-- at most so many nodes and records join the waste, each with such a lifetime, and none is taken out; its order means nothing
pub record Joins (Has : Lifetime → Type 0) (most : ℕ) (old new : List Lifetime) : Type 0 where
  pub more : List Lifetime
  pub few : length more ≤ most
  pub same : (f : Lifetime → ℕ) → sum_by f new ≡ sum_by f old + sum_by f more
  pub ended : All Has more

-- no version reached it
abbrev pub IsUnreached : Lifetime → Type 0
IsUnreached l = l.death ≡ 0

-- a version before had it, and the commit of this number took it out
abbrev pub EndsAt : ℕ → Lifetime → Type 0
EndsAt commit l = (l.birth < commit) × (l.death ≡ commit)

-- The most nodes that one triple may replace where it comes to a graph: at most 260 are made for it, and one of these
-- is the triple's own.
abbrev pub most_for_new : ℕ
most_for_new = 259

-- The most nodes that one triple may replace where it goes from a graph: at most 260 are made for the others, and its own
-- goes too.
abbrev pub most_for_gone : ℕ
most_for_gone = 261

-- at most so many join that no version reached, and at most so many that a commit took out, each with such a lifetime
pub record JoinsBoth (Has : Lifetime → Type 0) (unreached ended : ℕ) (old new : List Lifetime) : Type 0 where
  pub between : List Lifetime
  pub unused : Joins IsUnreached unreached old between
  pub replaced : Joins Has ended between new

-- What a commit of an upload of g makes of the waste of nodes, by its kind and whether it took effect. The nodes of a PUT become
-- the graph's, so the nodes that the graph had join; those of an upload without effect may join themselves.
abbrev pub UploadNodes : Totals → UploadKind → Graph → Bool → List Lifetime → List Lifetime → Type 0
UploadNodes v (Put t) g true old new = Joins (EndsAt (v.commit + 1)) (size_at v.dataset t) old new
UploadNodes v (Post t) g true old new = JoinsBoth (EndsAt (v.commit + 1)) (size_of g) (most_for_new * size_of g) old new
UploadNodes v New g true old new = JoinsBoth (EndsAt (v.commit + 1)) (size_of g) (most_for_new * size_of g) old new
UploadNodes v k g false old new = Joins IsUnreached (size_of g) old new

-- the most nodes that these operations may replace in a graph, by the triples that come to it and go from it on the way
abbrev pub most_patched : Option Graph → List Op → ℕ
most_patched None ops = 0
most_patched (Some g) ops = most_for_new * inserted_by g ops + most_for_gone * removed_by g ops

-- what operations on the graph of t make of it: where they took effect, nodes that they took out join it, and nodes that only
-- lived between them; and else none
abbrev pub UpdateNodes : Totals → Target → List Op → Bool → List Lifetime → List Lifetime → Type 0
UpdateNodes v t ops true old new =
    Joins (λ l. IsUnreached l ⊎ EndsAt (v.commit + 1) l) (most_patched (graph_at v.dataset t) ops) old new
UpdateNodes v t ops false old new = new ≡ old

-- what a Delete of t makes of it: the nodes that its graph had join it, where it had one, and else none
abbrev pub DeleteNodes : Totals → Target → Bool → List Lifetime → List Lifetime → Type 0
DeleteNodes v t true old new = Joins (EndsAt (v.commit + 1)) (size_at v.dataset t) old new
DeleteNodes v t false old new = new ≡ old

-- what an action that was answered so makes of the waste of nodes, by the phase of its seat: a refused one nothing
abbrev pub WastesNodes : Totals → SeatView → Action → Answer → List Lifetime → List Lifetime → Type 0
WastesNodes v (Writing k r g since) Commit (Status s name number) old new = UploadNodes v k g (is_success s) old new
WastesNodes v (Patching t r since) (CommitPatch ops) (Status s name number) old new = UpdateNodes v t ops.items (is_success s) old new
WastesNodes v p (Delete t since) (Status s name number) old new = DeleteNodes v t (is_success s) old new
WastesNodes v (Writing k r g since) Cancel Cancelled old new = Joins IsUnreached (size_of g) old new
WastesNodes v p action a old new = new ≡ old

-- the lifetime of the record that the graph of t has, once the next commit takes it out: the last write on t made it
abbrev pub EndsRecord : Totals → Target → Lifetime → Type 0
EndsRecord v t l = (l.birth ≡ last_write_on v.last_writes t) × (l.death ≡ v.commit + 1)

-- What a commit that makes g the graph of t makes of the waste of records: its own record joins where it is not used, and the one that
-- the graph had.
abbrev pub CommitRecords : Totals → Target → Graph → List Lifetime → List Lifetime → Type 0
CommitRecords v t g old new = JoinsBoth (EndsRecord v t) (unused_for t g) (records_at v.dataset t) old new

-- what a commit of an upload of g makes of it, by its kind and whether it took effect; a new graph's name had no record
abbrev pub UploadRecords : Totals → UploadKind → Graph → Bool → List Lifetime → List Lifetime → Type 0
UploadRecords v (Put t) g true old new = CommitRecords v t g old new
UploadRecords v (Post t) g true old new = CommitRecords v t (united (graph_at v.dataset t) g) old new
UploadRecords v New g true old new = Joins IsUnreached 0 old new
UploadRecords v k g false old new = Joins IsUnreached 1 old new

-- what operations on the graph of t make of it
abbrev pub UpdateRecords : Totals → Target → List Op → Bool → List Lifetime → List Lifetime → Type 0
UpdateRecords v t ops true old new = CommitRecords v t (patched (graph_at v.dataset t) ops) old new
UpdateRecords v t ops false old new = Joins IsUnreached 1 old new

-- what a Delete of t makes of it: the record of its graph joins it, where it had one
abbrev pub DeleteRecords : Totals → Target → Bool → List Lifetime → List Lifetime → Type 0
DeleteRecords v t true old new = Joins (EndsRecord v t) (records_at v.dataset t) old new
DeleteRecords v t false old new = new ≡ old

-- what an action that was answered so makes of the waste of records, by the phase of its seat: a refused one nothing
abbrev pub WastesRecords : Totals → SeatView → Action → Answer → List Lifetime → List Lifetime → Type 0
WastesRecords v (Writing k r g since) Commit (Status s name number) old new = UploadRecords v k g (is_success s) old new
WastesRecords v (Patching t r since) (CommitPatch ops) (Status s name number) old new = UpdateRecords v t ops.items (is_success s) old new
WastesRecords v p (Delete t since) (Status s name number) old new = DeleteRecords v t (is_success s) old new
WastesRecords v (Writing k r g since) Cancel Cancelled old new = Joins IsUnreached 1 old new
WastesRecords v (Patching t r since) Cancel Cancelled old new = Joins IsUnreached 1 old new
WastesRecords v p action a old new = new ≡ old

-- the births of the graphs and of this seat's upload
abbrev pub bearing_of : ℕ → NodeBirths → NodeBirths → List Lifetime → List Lifetime → Bearing
bearing_of seat births births_then old new = record {
  graphs = births_at births;
  graphs_then = births_at births_then;
  own = staged_births births seat;
  own_then = staged_births births_then seat;
  waste = old;
  waste_then = new;
}

-- what an action makes of births and of the waste: first of that of nodes, and then of that of records
pub record WastesBoth (v : Totals) (seat : ℕ) (p : SeatView) (action : Action) (a : Answer) (births births_then : NodeBirths) (old new : List Lifetime) : Type 0 where
  pub between : List Lifetime
  pub nodes : WastesNodes v p action a old between
  pub born : Bears v p action a (bearing_of seat births births_then old between)
  pub others : (k : ℕ) → k ≢ seat → AreSameBirths (staged_births births k) (staged_births births_then k)
  pub records : WastesRecords v p action a between new

-- the same, where there may be no such seat
abbrev pub WastesIf : Totals → ℕ → Option SeatView → Action → Answer → Shown → Shown → Type 0
WastesIf v seat None action a old new = (new.waste ≡ old.waste) × HasSameBirths old new
WastesIf v seat (Some p) action a old new = WastesBoth v seat p action a old.births new.births old.waste new.waste
