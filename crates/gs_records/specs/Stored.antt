-- How records are stored: entries in an index, and lifetimes in a pool. No public clause cites this module.
use Rattle.std.specs.Prelude.{◌≡◌, ℕ, ◌+◌, ◌<◌, ◌≤◌, nat_lt, Bool, false, if◌then◌else◌, List, [], ◌∷◌, length, drop, Option, Some, None, slice_index_or}
use Rattle.gs_model.specs.Limits.{last_node}
use Rattle.gs_pool.specs.declared.nodes.Node.{Node}
use Rattle.gs_pool.specs.Pool.{Nodes, NodeMark, plain, aside, retired, node_at, mark_at, free_count}
use Rattle.gs_ledger.specs.Marks.{death_of}
use Rattle.gs_index.specs.declared.entries.Entry.{Entry}
use Rattle.gs_index.specs.Indexes.{Indexed, entry_at, is_listed}
use Rattle.gs_records.specs.Records.{Record, free, opened, unused, kept, record_at}
use Rattle.gs_records.specs.Waste.{open_count}
use Rattle.gs_records.specs.Kept.{AreSingle, AreDated}

-- whether an entry is that of a record, which was made by a commit
abbrev pub is_made : Entry → Bool
is_made e = nat_lt 0 e.birth

-- what a number without such an entry stands for: its node is marked where it was given up
abbrev pub bare_of : Option Node → NodeMark → Record
bare_of None m = free
bare_of (Some n) plain = opened
bare_of (Some n) (aside death whole) = unused
bare_of (Some n) (retired death whole) = unused

-- what a number stands for, by its node, its mark and its entry
abbrev pub record_by : Option Node → NodeMark → Entry → Record
record_by o m e = if is_made e then kept e else bare_of o m

-- the same of all numbers
abbrev pub records_of : List Entry → List (Option Node) → List NodeMark → List Record
records_of [] nodes marks = []
records_of (e ∷ es) nodes marks =
    record_by (slice_index_or nodes 0 None) (slice_index_or marks 0 plain) e ∷ records_of es (drop 1 nodes) (drop 1 marks)

-- the records of an index and a pool
abbrev pub records_by : Indexed → Nodes → List Record
records_by x p = records_of x.entries p.nodes p.marks

-- a node of this birth
pub record HasNode (o : Option Node) (birth : ℕ) : Type 0 where
  pub node : Node
  pub found : o ≡ Some node
  pub birth_is : node.birth ≡ birth

-- what the mark of a record with this death says: that its node died alone, where it died
abbrev pub said_of : Option ℕ → Option (ℕ × Bool)
said_of None = None
said_of (Some death) = Some (death, false)

-- a number with this node, this mark and this entry stands for a record
abbrev pub StandsForRecord : Record → Option Node → NodeMark → Entry → Type 0
StandsForRecord free o m e = (e.birth ≡ 0) × (o ≡ None)
StandsForRecord opened o m e = (e.birth ≡ 0) × HasNode o 0 × (m ≡ plain)
StandsForRecord unused o m e = (e.birth ≡ 0) × HasNode o 0 × (death_of m ≡ Some (0, false))
StandsForRecord (kept k) o m e = (e ≡ k) × HasNode o k.birth × (death_of m ≡ said_of k.death) × (0 < k.birth)

-- each number stands for its record
abbrev pub AllStandForRecords : Indexed → Nodes → Type 0
AllStandForRecords x p = (n : ℕ) → StandsForRecord (record_at (records_by x p) n) (node_at p n) (mark_at p n) (entry_at x.entries n)

-- what is made is listed
abbrev pub ListsMade : Indexed → Type 0
ListsMade x = (n : ℕ) → is_listed n x.listed ≡ is_made (entry_at x.entries n)

-- there are as many entries as nodes, each number stands for its record, what is made is listed, and there is room for what is open
pub record IsStored (x : Indexed) (p : Nodes) (open_now latest : ℕ) : Type 0 where
  pub many : length p.nodes ≡ length x.entries
  pub stand : AllStandForRecords x p
  pub lists : ListsMade x
  pub counted : open_now ≡ open_count (records_by x p)
  pub room : open_now ≤ x.spare
  pub single : AreSingle (records_by x p)
  pub dated : AreDated latest (records_by x p)
  pub few : length x.entries ≤ last_node + 1

-- one number has another node, another mark and another entry, so that it stands for this record, and each other one has what it had
pub record ChangesOneNumber (x y : Indexed) (p q : Nodes) (n : ℕ) (r : Record) : Type 0 where
  pub many : length q.nodes ≡ length y.entries
  pub stands : StandsForRecord r (node_at q n) (mark_at q n) (entry_at y.entries n)
  pub nodes : (m : ℕ) → (m ≡ n → ⊥) → node_at q m ≡ node_at p m
  pub marks : (m : ℕ) → (m ≡ n → ⊥) → mark_at q m ≡ mark_at p m
  pub entries : (m : ℕ) → (m ≡ n → ⊥) → entry_at y.entries m ≡ entry_at x.entries m

-- each number has the entry that it had, and there is one more where no number of the pool is free
pub record GrowsByEntry (x y : Indexed) (p : Nodes) : Type 0 where
  pub entries : (m : ℕ) → entry_at y.entries m ≡ entry_at x.entries m
  pub listed : y.listed ≡ x.listed
  pub spare : y.spare ≡ x.spare
  pub free_left : 0 < free_count p → length y.entries ≡ length p.nodes
  pub none_free : free_count p ≡ 0 → length y.entries ≡ length p.nodes + 1
