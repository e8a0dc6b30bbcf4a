-- What a root means in a pool.
use Rattle.std.specs.Prelude.{◌≡◌, ℕ, zero, suc, ◌+◌, ◌≤◌, max, List, [], ◌∷◌, ◌++◌, Option, Some, None, IsSome, if◌then◌else◌, ◌==◌}
use Rattle.gs_pool.specs.declared.nodes.Key.{Key}
use Rattle.gs_pool.specs.declared.nodes.Node.{Node}
use Rattle.gs_pool.specs.Pool.{Nodes, node_at}

-- a tree of nodes: each by its number, its birth, its left side, its key and its right side
pub data Tree : Type 0 where
  leaf : Tree
  fork : ℕ → ℕ → Tree → Key → Tree → Tree

-- the number of the top node
abbrev pub root_of : Tree → Option ℕ
root_of leaf = None
root_of (fork id birth l k r) = Some id

-- how many nodes the longest way down has
abbrev pub height : Tree → ℕ
height leaf = 0
height (fork id birth l k r) = max (height l) (height r) + 1

-- the keys, from left to right
abbrev pub keys : Tree → List Key
keys leaf = []
keys (fork id birth l k r) = keys l ++ k ∷ keys r

-- how often a number is in a tree
abbrev pub occurrences : Tree → ℕ → ℕ
occurrences leaf x = 0
occurrences (fork id birth l k r) x = (if id == x then 1 else 0) + occurrences l x + occurrences r x

-- the node of a number, in a tree
abbrev pub top_node : ℕ → Tree → Key → Tree → Node
top_node birth l k r = record { key = k; left = root_of l; right = root_of r; height = max (height l) (height r) + 1; birth = birth }

-- the pool has each node of the tree
abbrev pub Stands : Nodes → Tree → Type 0
Stands p leaf = Unit {0}
Stands p (fork id birth l k r) = (node_at p id ≡ Some (top_node birth l k r)) × Stands p l × Stands p r

-- two numbers differ by so much at most
abbrev pub DifferByAtMost : ℕ → ℕ → ℕ → Type 0
DifferByAtMost by l r = (l ≤ r + by) × (r ≤ l + by)

-- the sides of each node differ by one in height at most
abbrev pub IsBalanced : Tree → Type 0
IsBalanced leaf = Unit {0}
IsBalanced (fork id birth l k r) = DifferByAtMost 1 (height l) (height r) × IsBalanced l × IsBalanced r

-- the height that a node has, and 0 where there is none
abbrev pub node_height : Option Node → ℕ
node_height None = 0
node_height (Some n) = n.height

-- the height that the pool has for a root
abbrev pub height_at : Nodes → Option ℕ → ℕ
height_at p None = 0
height_at p (Some id) = node_height (node_at p id)

-- a root's node is in use
abbrev pub IsRoot : Nodes → Option ℕ → Type 0
IsRoot p None = Unit {0}
IsRoot p (Some id) = IsSome (node_at p id)

-- the tree whose top is this node, its sides grown as given
abbrev pub grow_node : (Option ℕ → Tree) → ℕ → Option Node → Tree
grow_node below id None = leaf
grow_node below id (Some n) = fork id n.birth (below n.left) n.key (below n.right)

-- the tree below a root, its sides grown as given
abbrev pub grow_root : Nodes → (Option ℕ → Tree) → Option ℕ → Tree
grow_root p below None = leaf
grow_root p below (Some id) = grow_node below id (node_at p id)

-- the tree below a root, down to a depth
abbrev pub grow : ℕ → Nodes → Option ℕ → Tree
grow zero p root = leaf
grow (suc n) p root = grow_root p (grow n p) root

-- the tree that a root means
abbrev pub tree_at : Nodes → Option ℕ → Tree
tree_at p root = grow (height_at p root) p root

-- the top is born no later than this
abbrev pub BirthAtMost : ℕ → Tree → Type 0
BirthAtMost b leaf = Unit {0}
BirthAtMost b (fork id birth l k r) = birth ≤ b

-- no node is born after its parent
abbrev pub Descends : Tree → Type 0
Descends leaf = Unit {0}
Descends (fork id birth l k r) = BirthAtMost birth l × BirthAtMost birth r × Descends l × Descends r

-- 1 for a birth before `since`
abbrev pub older_birth : ℕ → ℕ → ℕ
older_birth since birth = if Rattle.std.specs.Prelude.nat_lt birth since then 1 else 0

-- how many nodes of a tree are older than `since`
abbrev pub older_count : ℕ → Tree → ℕ
older_count since leaf = 0
older_count since (fork id birth l k r) = older_birth since birth + older_count since l + older_count since r
