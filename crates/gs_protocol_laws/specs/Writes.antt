-- What a write leaves at its target, until a later write of that target takes effect (SPARQL 1.1 Graph Store HTTP Protocol, section 5).
use Rattle.std.specs.Prelude.{◌≡◌, ℕ, true, false, List, [], ◌∷◌, ◌++◌, if◌then◌else◌, Option, Some}
use Rattle.gs_model.specs.Graphs.{Graph, lines_of}
use Rattle.gs_term.specs.declared.names.Target.{Target}
use Rattle.gs_term.specs.declared.names.Target.TheVariants.{Named}
use Rattle.gs_event.specs.declared.events.Scope.TheVariants.{One}
use Rattle.gs_event.specs.declared.updates.Op.{Op}
use Rattle.gs_event.specs.Updates.{patched}
use Rattle.gs_event.specs.Datasets.{Dataset, graph_at, lines_at}
use Rattle.gs_event.specs.Verdicts.{is_named, operation_target}
use Rattle.gs_event.specs.Operations.{Setting, Puts, Posts, Creates, Patches, Deletes, Reads, united, status_of, location_of, is_success}
use Rattle.gs_event.specs.Conditions.{State, Asked, asked_since, status_if, after_if, after_all_if}

-- the operation took effect at the target: its status is 201 or 204, which no look and no read has, and no write that comes too late
abbrev pub TakesEffect : Setting → State → Asked → Target → Type 0
TakesEffect w m q t = (is_success (status_if w m q) ≡ true) × (operation_target w m.dataset q.operation ≡ Some t)

-- of the later operations, the newest first, none took effect at the target; the earlier ones came before them, the first of these
-- after c commits
abbrev pub SpareTarget : Setting → ℕ → Target → List Asked → List Asked → Type 0
SpareTarget w c t earlier [] = Unit {0}
SpareTarget w c t earlier (q ∷ later) = SpareTarget w c t earlier later × (TakesEffect w (after_all_if w c (later ++ earlier)) q t → ⊥)

-- the target's graph is g: a GET of it is answered 200, and its lines are those of g
pub record HasGraph (w : Setting) (m : Dataset) (t : Target) (g : Graph) : Type 0 where
  pub status : status_of w m (Reads (One t)) ≡ 200
  pub lines : lines_at m t ≡ lines_of g

-- the status of a GET of a target without a graph: the default graph is never missing
abbrev pub status_without : Target → ℕ
status_without t = if is_named t then 404 else 200

-- the target has no line
pub record HasNoLine (w : Setting) (m : Dataset) (t : Target) : Type 0 where
  pub status : status_of w m (Reads (One t)) ≡ status_without t
  pub lines : lines_at m t ≡ []

-- the dataset after these, the first of them after c commits
abbrev pub dataset_by : Setting → ℕ → List Asked → Dataset
dataset_by w c qs = (after_all_if w c qs).dataset

-- Where the operation took effect after the earlier ones, and none of the later ones did at the target, its graph is g.
abbrev pub LeavesGraph : Setting → ℕ → List Asked → Asked → Target → Graph → Type 0
LeavesGraph w c earlier q t g = (later : List Asked) → is_success (status_if w (after_all_if w c earlier) q) ≡ true → SpareTarget w c t (q ∷ earlier) later
    → HasGraph w (dataset_by w c (later ++ q ∷ earlier)) t g

-- and it has no line where that was a DELETE
abbrev pub LeavesNoLine : Setting → ℕ → List Asked → Option ℕ → Target → Type 0
LeavesNoLine w c earlier since t = (later : List Asked) → is_success (status_if w (after_all_if w c earlier) (asked_since since (Deletes t))) ≡ true
    → SpareTarget w c t (asked_since since (Deletes t) ∷ earlier) later → HasNoLine w (dataset_by w c (later ++ asked_since since (Deletes t) ∷ earlier)) t

-- a PUT leaves its graph, on whatever condition it took effect
abbrev pub PutsLeave : Type 0
PutsLeave = (w : Setting) (c : ℕ) (earlier : List Asked) (since : Option ℕ) (t : Target) (g : Graph) → LeavesGraph w c earlier (asked_since since (Puts t g)) t g

-- a POST its graph with what was there
abbrev pub PostsLeave : Type 0
PostsLeave = (w : Setting) (c : ℕ) (earlier : List Asked) (since : Option ℕ) (t : Target) (g : Graph)
    → LeavesGraph w c earlier (asked_since since (Posts t g)) t (united (graph_at (dataset_by w c earlier) t) g)

-- a new graph is left under the name that was made up for it
abbrev pub CreatesLeave : Type 0
CreatesLeave = (w : Setting) (c : ℕ) (earlier : List Asked) (since : Option ℕ) (r : ℕ) (g : Graph) (name : List ℕ)
    → location_of w (dataset_by w c earlier) (Creates r g) ≡ Some name → LeavesGraph w c earlier (asked_since since (Creates r g)) (Named name) g

-- a PATCH leaves what its update makes of what was there
abbrev pub PatchesLeave : Type 0
PatchesLeave = (w : Setting) (c : ℕ) (earlier : List Asked) (since : Option ℕ) (t : Target) (ops : List Op)
    → LeavesGraph w c earlier (asked_since since (Patches t ops)) t (patched (graph_at (dataset_by w c earlier) t) ops)

-- a DELETE leaves no line
abbrev pub DeletesLeave : Type 0
DeletesLeave = (w : Setting) (c : ℕ) (earlier : List Asked) (since : Option ℕ) (t : Target) → LeavesNoLine w c earlier since t

-- any other status leaves the whole store as it was, its numbers too
abbrev pub OthersLeaveAll : Type 0
OthersLeaveAll = (w : Setting) (m : State) (q : Asked) → is_success (status_if w m q) ≡ false → after_if w m q ≡ m
