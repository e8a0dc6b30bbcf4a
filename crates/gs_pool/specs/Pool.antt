-- What a contract sees of a `Pool`: for each number its node and its mark.
use Rattle.std.specs.Prelude.{◌≡◌, ◌≢◌, ℕ, ◌+◌, ◌<◌, List, length, MatchOption, Option, Some, None, IsSome, is_some, is_none, count_by, slice_index_or, Bool, true, false}
use Rattle.gs_pool.specs.declared.nodes.Node.{Node}
use Rattle.gs_pool.specs.declared.nodes.Retired.{Retired}

-- What a node in use is marked as: plain, set aside, or retired. The latter two have the death, and whether all nodes below are meant too.
pub data NodeMark : Type 0 where
  plain : NodeMark
  aside : ℕ → Bool → NodeMark
  retired : ℕ → Bool → NodeMark

-- the mark of a node that another one replaced, before its death is known
abbrev pub replaced : NodeMark
replaced = aside 0 false

-- The node under each number, where it is not free, and its mark; how many nodes fit after the last with no allocation; how many
-- numbers there are at most; how many retired nodes are not held; and for each list of held ones the version of its pin, and how
-- many it has.
pub record Nodes : Type 0 where
  pub nodes : List (Option Node)
  pub marks : List NodeMark
  pub spare : ℕ
  pub limit : ℕ
  pub loose : ℕ
  pub pins : List (Option ℕ)
  pub held : List ℕ

-- the node under a number
abbrev pub node_at : Nodes → ℕ → Option Node
node_at p id = slice_index_or p.nodes id None

-- the mark of a number, which is plain where the number is free
abbrev pub mark_at : Nodes → ℕ → NodeMark
mark_at p id = slice_index_or p.marks id plain

-- whether a mark is that of a node set aside
abbrev pub is_aside : NodeMark → Bool
is_aside plain = false
is_aside (aside death whole) = true
is_aside (retired death whole) = false

-- the node is retired
abbrev pub is_retired : NodeMark → Bool
is_retired plain = false
is_retired (aside death whole) = false
is_retired (retired death whole) = true

-- a mark, with a node that is set aside retired alone, with this death
abbrev pub retired_mark : ℕ → NodeMark → NodeMark
retired_mark death plain = plain
retired_mark death (aside d whole) = retired death false
retired_mark death (retired d whole) = retired d whole

-- how many numbers are free
abbrev pub free_count : Nodes → ℕ
free_count p = count_by is_none p.nodes

-- how many numbers are in use
abbrev pub in_use : Nodes → ℕ
in_use p = count_by is_some p.nodes

-- how many nodes are set aside
abbrev pub aside_count : Nodes → ℕ
aside_count p = count_by is_aside p.marks

-- how many nodes are retired
abbrev pub retired_count : Nodes → ℕ
retired_count p = count_by is_retired p.marks

-- how many nodes fit with no allocation
abbrev pub room : Nodes → ℕ
room p = free_count p + p.spare

-- the new pool has this under the number, and every other number keeps what it had
pub record Updates (old new : Nodes) (id : ℕ) (node : Option Node) : Type 0 where
  pub changed : node_at new id ≡ node
  pub others : (other : ℕ) → other ≢ id → node_at new other ≡ node_at old other

-- every number keeps its node
abbrev pub KeepsNodes : Nodes → Nodes → Type 0
KeepsNodes old new = (id : ℕ) → node_at new id ≡ node_at old id

-- every number keeps its mark
abbrev pub KeepsMarks : Nodes → Nodes → Type 0
KeepsMarks old new = (id : ℕ) → mark_at new id ≡ mark_at old id

-- a number that was free has this node, and the pool is longer, by one number, only where none was free
pub record Fills (old new : Nodes) (id : ℕ) (node : Node) : Type 0 where
  pub was_free : node_at old id ≡ None
  pub updates : Updates old new id (Some node)
  pub plain_now : mark_at new id ≡ plain
  pub marks : KeepsMarks old new
  pub below : id < new.limit
  pub in_use : Rattle.gs_pool.specs.Pool.in_use new ≡ Rattle.gs_pool.specs.Pool.in_use old + 1
  pub aside : aside_count new ≡ aside_count old
  pub retired : retired_count new ≡ retired_count old
  pub reuses : 0 < free_count old → length new.nodes ≡ length old.nodes
  pub grows : free_count old ≡ 0 → length new.nodes ≡ length old.nodes + 1

-- all nodes stay, and one number has another mark
pub record Marks (old new : Nodes) (id : ℕ) (mark : NodeMark) : Type 0 where
  pub nodes : new.nodes ≡ old.nodes
  pub spare : new.spare ≡ old.spare
  pub limit : new.limit ≡ old.limit
  pub changed : mark_at new id ≡ mark
  pub others : (other : ℕ) → other ≢ id → mark_at new other ≡ mark_at old other

-- a node with this mark is plain again
pub record Unlists (old new : Nodes) (id : ℕ) (mark : NodeMark) : Type 0 where
  pub used : (n : Node) × (node_at old id ≡ Some n)
  pub was : mark_at old id ≡ mark
  pub marks : Marks old new id plain

-- one of the nodes set aside is plain again, with the death that it had; or none is there, and nothing changes
abbrev pub TakesAside : Nodes → Nodes → Option Retired → Type 0
TakesAside old new taken = MatchOption taken (new ≡ old) (λ r. Unlists old new r.id (aside r.death r.whole))

-- the same, of the retired nodes
abbrev pub TakesRetired : Nodes → Nodes → Option Retired → Type 0
TakesRetired old new taken = MatchOption taken (new ≡ old) (λ r. Unlists old new r.id (retired r.death r.whole))

-- none is taken only where there were none, and else there is one fewer
abbrev pub CountsRetired : Option Retired → ℕ → ℕ → Type 0
CountsRetired taken before after = MatchOption taken (before ≡ 0) (λ _. after + 1 ≡ before)

-- a number that was free has this node, and the plain node of another number is set aside
pub record Replaces (old new : Nodes) (id copy : ℕ) (node : Node) : Type 0 where
  pub was_free : node_at old copy ≡ None
  pub updates : Updates old new copy (Some node)
  pub changed : mark_at new id ≡ replaced
  pub others : (other : ℕ) → other ≢ id → mark_at new other ≡ mark_at old other
  pub plain_now : mark_at new copy ≡ plain
  pub below : copy < new.limit
  pub in_use : Rattle.gs_pool.specs.Pool.in_use new ≡ Rattle.gs_pool.specs.Pool.in_use old + 1
  pub aside_more : aside_count new ≡ aside_count old + 1
  pub retired_same : retired_count new ≡ retired_count old
  pub reuses : 0 < free_count old → length new.nodes ≡ length old.nodes
  pub grows : free_count old ≡ 0 → length new.nodes ≡ length old.nodes + 1

-- a node is in use and on no list
abbrev pub IsPlain : Nodes → ℕ → Type 0
IsPlain p id = IsSome (node_at p id) × (mark_at p id ≡ plain)

-- a number that is free is on no list but that of the free ones
abbrev pub IsParted : Nodes → Type 0
IsParted p = (id : ℕ) → node_at p id ≡ None → mark_at p id ≡ plain
