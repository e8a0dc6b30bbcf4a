-- The ledger of a pool that graphs, open uploads, pinned reads and waste share: whose each node is, and what reads have.
use Rattle.std.specs.Prelude.{◌≡◌, ℕ, ◌+◌, ◌≤◌, Bool, true, false, List, [], Option, Some, None, slice_index_or}
use Rattle.std.specs.List.{All}
use Rattle.gs_pool.specs.declared.nodes.Node.{Node}
use Rattle.gs_pool.specs.Pool.{Nodes, node_at, mark_at}
use Rattle.gs_tree.specs.Tree.{Tree, leaf, root_of, occurrences, Stands, BirthAtMost, Descends}
use Rattle.gs_tree.specs.Steps.{plain_mark}
use Rattle.gs_versions.specs.Pins.{Pins}
use Rattle.gs_ledger.specs.Entries.{Dead, trees_have, dead_have, dead_have_after, tops}
use Rattle.gs_ledger.specs.Marks.{death_of, used_count}

-- a tree that version v may have: it stands in the pool, no node is born after its parent, and none after v
pub record IsTreeOf (p : Nodes) (v : ℕ) (t : Tree) : Type 0 where
  pub stands : Stands p t
  pub descends : Descends t
  pub born : BirthAtMost v t

-- the sides are those of the node, if all below it died too, and else leaves
abbrev pub HasSides : Bool → Node → Tree → Tree → Type 0
HasSides true n l r = (n.left ≡ root_of l) × (n.right ≡ root_of r)
HasSides false n l r = (l ≡ leaf) × (r ≡ leaf)

-- the pool has the dead node, with its birth and the death that its mark says, which is no later than commit c; its sides stand, and none of their nodes is younger than it
pub record IsDead (p : Nodes) (c : ℕ) (d : Dead) : Type 0 where
  pub top : Node
  pub found : node_at p d.id ≡ Some top
  pub birth_is : top.birth ≡ d.birth
  pub marked : death_of (mark_at p d.id) ≡ Some (d.death, d.whole)
  pub sides : HasSides d.whole top d.left d.right
  pub left_tree : IsTreeOf p d.birth d.left
  pub right_tree : IsTreeOf p d.birth d.right
  pub died : d.death ≤ c

-- a read of the tree t, pinned at version v: the tree is one of v, and all its nodes are in current graphs or in what died after v
pub record IsRead (p : Nodes) (c : ℕ) (graphs : List Tree) (dead : List Dead) (v : ℕ) (t : Tree) : Type 0 where
  pub pinned : v ≤ c
  pub tree : IsTreeOf p v t
  pub within : (x : ℕ) → occurrences t x ≤ trees_have graphs x + dead_have_after v dead x

-- what a seat reads, where it has pinned a version: the version is no later than commit c, and the trees are of it
abbrev pub IsReadAt : Nodes → ℕ → List Tree → List Dead → Option ℕ → List Tree → Type 0
IsReadAt p c graphs dead None ts = Unit {0}
IsReadAt p c graphs dead (Some v) ts = (v ≤ c) × All (IsRead p c graphs dead v) ts

-- The ledger. Each number in use is once in a current graph, in an open upload or in what is dead, and no other number is. A marked node is dead, and a plain one at most goes with another. A current tree is one of the last commit, an upload's one of the next; what is dead died by the last commit. Each seat that has pinned a version, which is no later than the last commit, reads trees of it.
pub record IsLedger (p : Nodes) (v : Pins) (graphs uploads : List Tree) (reads : List (List Tree)) (dead : List Dead) : Type 0 where
  pub once : (x : ℕ) → trees_have graphs x + trees_have uploads x + dead_have dead x ≡ used_count p x
  pub marks : (x : ℕ) → tops dead x + plain_mark (mark_at p x) ≡ 1
  pub current : All (IsTreeOf p v.commit) graphs
  pub staged : All (IsTreeOf p (v.commit + 1)) uploads
  pub waste : All (IsDead p v.commit) dead
  pub read : (s : ℕ) → IsReadAt p v.commit graphs dead (slice_index_or v.seats s None) (slice_index_or reads s [])
