-- How a change ends: taken back, or kept.
use Rattle.std.specs.Prelude.{◌≡◌, ◌⊎◌, ℕ, ◌+◌, ◌<◌, ◌≤◌, Option, Some, None}
use Rattle.gs_pool.specs.declared.nodes.Node.{Node}
use Rattle.gs_pool.specs.Pool.{Nodes, NodeMark, plain, aside, retired, node_at, mark_at, retired_mark, in_use, aside_count, retired_count, KeepsNodes, KeepsMarks}
use Rattle.gs_tree.specs.Tree.{Tree, root_of, occurrences, Stands, Descends, tree_at}
use Rattle.gs_tree.specs.Steps.{plain_count, IsOlder, Step}
use Rattle.gs_changes.specs.Changes.{CanBegin}

-- a mark, once nothing is set aside any more
abbrev pub returned : NodeMark → NodeMark
returned plain = plain
returned (aside death whole) = plain
returned (retired death whole) = retired death whole

-- a root means a tree of plain nodes, none of which is born after its parent
pub record IsDraft (p : Nodes) (root : Option ℕ) (t : Tree) : Type 0 where
  pub root_is : root ≡ root_of t
  pub stands : Stands p t
  pub descends : Descends t
  pub apart : (x : ℕ) → occurrences t x ≤ plain_count p x

-- what `IsDraft` says, of the tree that the pool has for the root
abbrev pub IsDraftAt : Nodes → Option ℕ → Type 0
IsDraftAt p root = IsDraft p root (tree_at p root)

-- the nodes of the tree that are no older than `since` are free, and every other number keeps its node
pub record FreesYoung (since : ℕ) (p q : Nodes) (t : Tree) : Type 0 where
  pub gone : (x : ℕ) (n : Node) → 0 < occurrences t x → node_at p x ≡ Some n → since ≤ n.birth → node_at q x ≡ None
  pub rest : (x : ℕ) → (occurrences t x ≡ 0) ⊎ IsOlder since p x → node_at q x ≡ node_at p x

-- every number keeps its mark, and as many nodes are set aside and retired
pub record KeepsAllMarks (p q : Nodes) : Type 0 where
  pub marks : KeepsMarks p q
  pub aside : aside_count q ≡ aside_count p
  pub retired : retired_count q ≡ retired_count p

-- the nodes of the tree are free, and every other number keeps its node and its mark
pub record FreesTree (p q : Nodes) (t : Tree) : Type 0 where
  pub step : (birth : ℕ) → Step 0 birth p q (occurrences t) (λ x. 0)
  pub marks : KeepsAllMarks p q

-- what was set aside is plain, and nothing else changes
pub record Returns (p q : Nodes) : Type 0 where
  pub nodes : q.nodes ≡ p.nodes
  pub spare : q.spare ≡ p.spare
  pub marks : (x : ℕ) → mark_at q x ≡ returned (mark_at p x)
  pub aside : aside_count q ≡ 0
  pub retired : retired_count q ≡ retired_count p

-- the nodes of the tree that are no older than `since` are free, what was set aside is plain, and nothing else changes
pub record TakesBack (since : ℕ) (p q : Nodes) (t : Tree) : Type 0 where
  pub frees : FreesYoung since p q t
  pub marks : (x : ℕ) → mark_at q x ≡ returned (mark_at p x)
  pub aside : aside_count q ≡ 0
  pub retired : retired_count q ≡ retired_count p

-- each number has the node and the mark that it had, and so none is set aside
pub record Restores (p q : Nodes) : Type 0 where
  pub nodes : KeepsNodes p q
  pub marks : KeepsMarks p q
  pub in_use : Rattle.gs_pool.specs.Pool.in_use q ≡ Rattle.gs_pool.specs.Pool.in_use p
  pub aside : aside_count q ≡ 0
  pub retired : retired_count q ≡ retired_count p

-- from every pool p that a change began at, with a tree t that became the tree `draft` of the pool q, the pool r is as p was
abbrev pub UndoesAll : ℕ → Nodes → Nodes → Tree → Type 0
UndoesAll since q r draft = (p : Nodes) (t : Tree) → CanBegin since p t → Step since since p q (occurrences t) (occurrences draft) → Restores p r

-- what was set aside is retired, each node alone, with this death; nothing else changes
pub record Retires (death : ℕ) (p q : Nodes) : Type 0 where
  pub nodes : q.nodes ≡ p.nodes
  pub spare : q.spare ≡ p.spare
  pub limit : q.limit ≡ p.limit
  pub marks : (x : ℕ) → mark_at q x ≡ retired_mark death (mark_at p x)
  pub aside : aside_count q ≡ 0
  pub retired : retired_count q ≡ retired_count p + aside_count p
