-- Nodes and records in use, and waste: what a store keeps beyond its current graphs and its open uploads and patches.
use Rattle.std.specs.Prelude.{ℕ, ◌+◌, Bool, false, ◌&&◌, nat_le, nat_lt, if◌then◌else◌, List, length, Option, Some, None}
use Rattle.std.specs.List.{sum_by, list_any}
use Rattle.gs_model.specs.Graphs.{size_of}
use Rattle.gs_event.specs.Datasets.{kept_in}
use Rattle.gs_event.specs.Births.{NodeBirths}
use Rattle.gs_event.specs.Phases.{Phase, Idle, Writing, Patching, Reading}
use Rattle.gs_event.specs.Views.{View, SeatView}

-- The lifetime of a node or a record of no current graph and no open upload or patch: just the versions v with birth ≤ v < death need it.
-- Its death is the number of the commit that took it out, 0 where no version reached it.
pub record Lifetime : Type 0 where
  pub birth : ℕ
  pub death : ℕ

-- what a store shows, the commit number at the pin of each seat's read, the waste, and births
pub record Shown : Type 0 where
  pub view : View
  pub pinned : List (Option ℕ)
  pub waste : List Lifetime
  pub births : NodeBirths

-- how many nodes and records the seat has open: a node for each triple of an upload, and a record of an upload or a patch
abbrev pub held_at : {R : Type 0} → Phase R → ℕ
held_at Idle = 0
held_at (Writing k r g since) = size_of g + 1
held_at (Patching t r since) = 1
held_at (Reading left) = 0

-- how many all seats have open
abbrev pub held_in : List SeatView → ℕ
held_in seats = sum_by (λ p. held_at p) seats

-- a node for each triple of a current graph or an open upload, the records of current graphs, open uploads and patches, and the waste
abbrev pub nodes_in : Shown → ℕ
nodes_in s = kept_in s.view.totals.dataset + held_in s.view.seats + length s.waste

-- whether the pinned version, if there is one, needs what has this lifetime
abbrev pub lives_at : Lifetime → Option ℕ → Bool
lives_at l None = false
lives_at l (Some v) = nat_le l.birth v && nat_lt v l.death

-- whether a pinned version needs it
abbrev pub is_needed : List (Option ℕ) → Lifetime → Bool
is_needed pins l = list_any (λ p. lives_at l p) pins

-- how many of these no pinned version needs
abbrev pub unneeded : List (Option ℕ) → List Lifetime → ℕ
unneeded pins waste = sum_by (λ l. if is_needed pins l then 0 else 1) waste
