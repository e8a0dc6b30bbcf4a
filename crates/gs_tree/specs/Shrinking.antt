-- How a tree loses a key.
use Rattle.std.specs.Prelude.{◌≡◌, ℕ, ◌+◌, ◌*◌, ◌^◌, ◌<◌, ◌≤◌, min, Option, Some}
use Rattle.gs_pool.specs.declared.nodes.Node.{Node}
use Rattle.gs_pool.specs.Pool.{Nodes, node_at, in_use, aside_count, room}
use Rattle.gs_tree.specs.Tree.{Tree, root_of, height, occurrences, Stands, IsBalanced, BirthAtMost, Descends, tree_at, older_birth, older_count}
use Rattle.gs_tree.specs.Steps.{plain_count, one, SameTotal, Step}
use Rattle.gs_tree.specs.Joining.{copies}

-- A change that takes a key out: the tree t becomes the tree new, which is one level lower at most. One number goes on the list of replaced ones, or is free again.
pub record Shrinks (since birth : ℕ) (p q : Nodes) (result : Option ℕ) (t new : Tree) : Type 0 where
  pub root : result ≡ root_of new
  pub stands : Stands q new
  pub balanced : IsBalanced new
  pub births : Descends t → BirthAtMost birth t → Descends new × BirthAtMost birth new
  pub not_higher : height new ≤ height t
  pub one_lower : height t ≤ height new + 1
  pub step : Step since birth p q (occurrences t) (occurrences new)
  pub total : SameTotal p q
  pub few : in_use q ≤ in_use p + copies since (3 * height t)
  pub copied : in_use q + older_count since new + 1 ≡ in_use p + older_count since t
  pub exact : in_use q + aside_count p + 1 ≡ in_use p + aside_count q

-- a node is out of use: an older one is set aside, a young one is free
pub record Discards (since : ℕ) (p q : Nodes) (id : ℕ) : Type 0 where
  pub step : (birth : ℕ) → Step since birth p q (one id) (λ x. 0)
  pub total : SameTotal p q
  pub exact : in_use q + aside_count p + 1 ≡ in_use p + aside_count q
  pub few : in_use q ≤ in_use p
  pub copied : (n : Node) → node_at p id ≡ Some n → in_use q + 1 ≡ in_use p + older_birth since n.birth

-- how many nodes a removal takes at most
abbrev pub remove_cost : ℕ → ℕ → ℕ
remove_cost since h = copies since (3 * h)

-- a root means a balanced tree, and there is room for a change
pub record CanShrink (since : ℕ) (p : Nodes) (root : Option ℕ) (t : Tree) : Type 0 where
  pub root_is : root ≡ root_of t
  pub stands : Stands p t
  pub balanced : IsBalanced t
  pub apart : (x : ℕ) → occurrences t x ≤ plain_count p x
  pub fits : height t < 2 ^ 13
  pub has_room : min (remove_cost since (height t)) (older_count since t) ≤ room p

-- the tree that a root means can lose a key
abbrev pub CanShrinkAt : ℕ → Nodes → Option ℕ → Type 0
CanShrinkAt since p root = CanShrink since p root (tree_at p root)

-- the tree that a root meant has lost a key
abbrev pub ShrinksAt : ℕ → ℕ → Nodes → Nodes → Option ℕ → Option ℕ → Type 0
ShrinksAt since birth p q root new = Shrinks since birth p q new (tree_at p root) (tree_at q new)
