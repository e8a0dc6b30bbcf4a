-- What the parts of a reclaim make of an index and a pool. No public clause cites this module.
use Rattle.std.specs.Prelude.{◌≡◌, ◌≢◌, ℕ, ◌+◌, ◌≤◌, Bool, true, false, List, length, Option, Some, None, slice_index_or}
use Rattle.std.specs.List.{All, sum_by}
use Rattle.gs_pool.specs.declared.nodes.Node.{Node}
use Rattle.gs_pool.specs.declared.nodes.Retired.{Retired}
use Rattle.gs_pool.specs.Pool.{Nodes, NodeMark, aside, node_at, mark_at, aside_count, Updates, KeepsMarks, Marks}
use Rattle.gs_versions.specs.Pins.{IsPinned}
use Rattle.gs_event.specs.Waste.{Lifetime, is_needed}
use Rattle.gs_event.specs.Steps.{Frees}
use Rattle.gs_ledger.specs.Marks.{death_of}
use Rattle.gs_index.specs.Indexes.{Indexed, entry_at}
use Rattle.gs_records.specs.Records.{Record, record_at}
use Rattle.gs_records.specs.Graphs.{graphs_at, current}
use Rattle.gs_records.specs.Births.{births_of}
use Rattle.gs_records.specs.Waste.{waste_in}
use Rattle.gs_records.specs.Stored.{records_by, ListsMade, IsStored}
use Rattle.gs_records.specs.Reclaims.{StaysOrGoes}

-- some records are stored so
pub record AreStored (x : Indexed) (p : Nodes) : Type 0 where
  pub opens : ℕ
  pub latest : ℕ
  pub stored : IsStored x p opens latest

-- records that were stored are stored
abbrev pub KeepsStored : Indexed → Indexed → Nodes → Nodes → Type 0
KeepsStored x y p q = (opens latest : ℕ) → IsStored x p opens latest → IsStored y q opens latest

-- a number has no entry and is not listed, and all others are as they were
pub record Blanks (x y : Indexed) (n : ℕ) : Type 0 where
  pub many : length y.entries ≡ length x.entries
  pub blank : (entry_at y.entries n).birth ≡ 0
  pub others : (m : ℕ) → m ≢ n → entry_at y.entries m ≡ entry_at x.entries m
  pub lists : ListsMade y
  pub spare : x.spare ≤ y.spare

-- a number has no node either
pub record Lets (x y : Indexed) (p q : Nodes) (n : ℕ) : Type 0 where
  pub blanks : Blanks x y n
  pub numbers : length q.nodes ≡ length p.nodes
  pub updates : Updates p q n None
  pub marks : KeepsMarks p q

-- a node that was taken off the list, and that a pin needs, is dead still: it is held, or set aside
pub record Stays (pins : List (Option ℕ)) (p q : Nodes) (r : Retired) : Type 0 where
  pub node : Node
  pub found : node_at p r.id ≡ Some node
  pub pinned : IsPinned pins node.birth r.death
  pub mark : NodeMark
  pub dead : death_of mark ≡ Some (r.death, r.whole)
  pub marks : Marks p q r.id mark

-- such a number is free, where no pin needs it, and else stays
abbrev pub SettlesNumber : List (Option ℕ) → Indexed → Indexed → Nodes → Nodes → Retired → Bool → Type 0
SettlesNumber pins x y p q r true = (n : Node) × (node_at p r.id ≡ Some n) × (IsPinned pins n.birth r.death → ⊥) × Lets x y p q r.id
SettlesNumber pins x y p q r false = (y ≡ x) × Stays pins p q r

-- so many numbers are free now, which stood for records that no pin needs, and nothing else is another
pub record Drops (pins : List (Option ℕ)) (freed : ℕ) (old new : List Record) : Type 0 where
  pub each : (m : ℕ) → StaysOrGoes pins (record_at old m) (record_at new m)
  pub versions : (s v : ℕ) → slice_index_or pins s None ≡ Some v → graphs_at v new ≡ graphs_at v old
  pub now : current new ≡ current old
  pub births : births_of new ≡ births_of old
  pub gone : List Lifetime
  pub many : length gone ≡ freed
  pub same : (f : Lifetime → ℕ) → sum_by f (waste_in new) + sum_by f gone ≡ sum_by f (waste_in old)
  pub none_needed : All (λ l. is_needed pins l ≡ false) gone

-- what is set aside a pin needs
abbrev pub AsideIsNeeded : List (Option ℕ) → Nodes → Type 0
AsideIsNeeded pins q = (x death : ℕ) (whole : Bool) (n : Node) → mark_at q x ≡ aside death whole → node_at q x ≡ Some n → IsPinned pins n.birth death

-- so many went, and what is set aside is needed
pub record Sweeps (pins : List (Option ℕ)) (freed : ℕ) (x y : Indexed) (p q : Nodes) : Type 0 where
  pub stored : KeepsStored x y p q
  pub drops : Drops pins freed (records_by x p) (records_by y q)
  pub aside : AsideIsNeeded pins q

-- a whole reclaim
pub record Swept (pins : List (Option ℕ)) (n freed : ℕ) (left : Bool) (x y : Indexed) (p q : Nodes) : Type 0 where
  pub stored : KeepsStored x y p q
  pub drops : Drops pins freed (records_by x p) (records_by y q)
  pub waste : Frees pins n freed left (waste_in (records_by x p)) (waste_in (records_by y q))
  pub none_aside : aside_count q ≡ 0
