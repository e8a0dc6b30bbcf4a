-- What an action makes of births, by the phase of its seat and the answer. No version up to the last commit has a node that is made now, so
-- it is born at the next one.
use Rattle.std.specs.Prelude.{◌≡◌, ◌≢◌, ◌≤◌, ℕ, ◌+◌, Bool, true, false, nat_eq, if◌then◌else◌, List, [], length, slice_index_or}
use Rattle.std.specs.List.{sum_by, All}
use Rattle.gs_model.specs.Graphs.{size_of}
use Rattle.gs_term.specs.declared.names.Target.{Target}
use Rattle.gs_term.specs.declared.names.Target.TheVariants.{Named}
use Rattle.gs_event.specs.declared.events.UploadKind.{UploadKind}
use Rattle.gs_event.specs.declared.events.UploadKind.TheVariants.{Put, Post, New}
use Rattle.gs_event.specs.declared.events.Action.{Action}
use Rattle.gs_event.specs.declared.events.Action.TheVariants.{Stage, Commit, CommitPatch, Delete, Cancel}
use Rattle.gs_event.specs.declared.answers.Answer.{Answer}
use Rattle.gs_event.specs.declared.answers.Answer.TheVariants.{Staged, Status, Cancelled, Refused}
use Rattle.gs_event.specs.Datasets.{size_at}
use Rattle.gs_event.specs.Names.{new_name}
use Rattle.gs_event.specs.Operations.{is_success}
use Rattle.gs_event.specs.Phases.{Phase, Idle, Writing, Patching, Reading}
use Rattle.gs_event.specs.Views.{Totals, SeatView}
use Rattle.gs_event.specs.Births.{births_at, staged_births}
use Rattle.gs_event.specs.Waste.{Lifetime, Shown}

-- a sum over the births of what the commit of this number took out
abbrev pub ended_sum : ℕ → (ℕ → ℕ) → List Lifetime → ℕ
ended_sum commit f waste = sum_by (λ l. if nat_eq l.death commit then f l.birth else 0) waste

-- the same births, in any order
abbrev pub AreSameBirths : List ℕ → List ℕ → Type 0
AreSameBirths old new = (f : ℕ → ℕ) → sum_by f new ≡ sum_by f old

-- of the nodes of a graph or an upload some were freed, some joined the waste by the commit that is next, others were made, each born at
-- that commit, and the rest are there still
pub record Renews (commit : ℕ) (births births_then : List ℕ) (old new : List Lifetime) : Type 0 where
  pub freed : List ℕ
  pub made : List ℕ
  pub next : All (λ birth. birth ≡ commit + 1) made
  pub same : (f : ℕ → ℕ) → sum_by f births_then + ended_sum (commit + 1) f new + sum_by f freed ≡ sum_by f births + ended_sum (commit + 1) f old + sum_by f made

-- they joined the waste by the commit that is next, or were freed
pub record Leave (commit : ℕ) (births : List ℕ) (old new : List Lifetime) : Type 0 where
  pub freed : List ℕ
  pub same : (f : ℕ → ℕ) → ended_sum (commit + 1) f new + sum_by f freed ≡ sum_by f births + ended_sum (commit + 1) f old

-- the births of each graph, by its target
abbrev pub GraphBirths : Type 0
GraphBirths = Target → List ℕ

-- each graph has the births that it had
abbrev pub GraphBirthsStay : GraphBirths → GraphBirths → Type 0
GraphBirthsStay old new = (u : Target) → AreSameBirths (old u) (new u)

-- each graph but this one
abbrev pub OtherBirthsStay : Target → GraphBirths → GraphBirths → Type 0
OtherBirthsStay t old new = (u : Target) → u ≢ t → AreSameBirths (old u) (new u)

-- The births of the graphs and of the seat's upload, before an action and after it, and the waste of nodes before and after.
pub record Bearing : Type 0 where
  pub graphs : GraphBirths
  pub graphs_then : GraphBirths
  pub own : List ℕ
  pub own_then : List ℕ
  pub waste : List Lifetime
  pub waste_then : List Lifetime

-- no birth changes
abbrev pub BirthsStay : Bearing → Type 0
BirthsStay b = GraphBirthsStay b.graphs b.graphs_then × AreSameBirths b.own b.own_then

-- nodes of the upload are made
abbrev pub StageBears : ℕ → Bearing → Type 0
StageBears commit b = GraphBirthsStay b.graphs b.graphs_then × Renews commit b.own b.own_then [] []

-- nodes of the graph of t are made and taken out
abbrev pub GraphBears : ℕ → Target → Bearing → Type 0
GraphBears commit t b = OtherBirthsStay t b.graphs b.graphs_then × Renews commit (b.graphs t) (b.graphs_then t) b.waste b.waste_then

-- the nodes of the upload become those of the graph of t, and those that this had are taken out
abbrev pub Hands : ℕ → Target → Bearing → Type 0
Hands commit t b = OtherBirthsStay t b.graphs b.graphs_then × AreSameBirths b.own (b.graphs_then t) × Leave commit (b.graphs t) b.waste b.waste_then

-- what the commit of an upload makes of them, by its kind and whether it took effect; the upload is no more
abbrev pub UploadBears : Totals → UploadKind → ℕ → Bool → Bearing → Type 0
UploadBears v (Put t) r true b = Hands v.commit t b × (b.own_then ≡ [])
UploadBears v (Post t) r true b = GraphBears v.commit t b × (b.own_then ≡ [])
UploadBears v New r true b = Hands v.commit (Named (new_name v.setting.base v.dataset r)) b × (b.own_then ≡ [])
UploadBears v k r false b = GraphBirthsStay b.graphs b.graphs_then × (b.own_then ≡ [])

-- what the operations of a patch make of them
abbrev pub PatchBears : ℕ → Target → Bool → Bearing → Type 0
PatchBears commit t true b = GraphBears commit t b × AreSameBirths b.own b.own_then
PatchBears commit t false b = BirthsStay b

-- and a Delete
abbrev pub DeleteBears : ℕ → Target → Bool → Bearing → Type 0
DeleteBears commit t true b = OtherBirthsStay t b.graphs b.graphs_then × (b.graphs_then t ≡ []) × Leave commit (b.graphs t) b.waste b.waste_then × AreSameBirths b.own b.own_then
DeleteBears commit t false b = BirthsStay b

-- What an action makes of them. The commit of a POST that is refused makes its upload again.
abbrev pub Bears : Totals → SeatView → Action → Answer → Bearing → Type 0
Bears v (Writing k r g since) (Stage ts) Staged b = StageBears v.commit b
Bears v (Writing k r g since) Commit (Status s name number) b = UploadBears v k r (is_success s) b
Bears v (Writing (Post t) r g since) Commit (Refused e) b = StageBears v.commit b
Bears v (Writing k r g since) Cancel Cancelled b = GraphBirthsStay b.graphs b.graphs_then × (b.own_then ≡ [])
Bears v (Patching t r since) (CommitPatch ops) (Status s name number) b = PatchBears v.commit t (is_success s) b
Bears v p (Delete t since) (Status s name number) b = DeleteBears v.commit t (is_success s) b
Bears v p action a b = BirthsStay b

-- how many triples a seat has staged
abbrev pub staged_at : {R : Type 0} → Phase R → ℕ
staged_at Idle = 0
staged_at (Writing k r g since) = size_of g
staged_at (Patching t r since) = 0
staged_at (Reading left) = 0

-- no graph and no upload has more births than triples
pub record HasFewBirths (s : Shown) : Type 0 where
  pub graphs : (t : Target) → length (births_at s.births t) ≤ size_at s.view.totals.dataset t
  pub staged : (k : ℕ) → length (staged_births s.births k) ≤ staged_at (slice_index_or s.view.seats k Idle)

-- each graph and each upload has the births that it had
pub record HasSameBirths (old new : Shown) : Type 0 where
  pub graphs : GraphBirthsStay (births_at old.births) (births_at new.births)
  pub staged : (k : ℕ) → AreSameBirths (staged_births old.births k) (staged_births new.births k)
