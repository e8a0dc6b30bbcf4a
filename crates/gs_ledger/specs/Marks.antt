-- The dead nodes that the marks of a pool say.
use Rattle.std.specs.Prelude.{ℕ, zero, suc, Bool, if◌then◌else◌, List, [], ◌∷◌, ◌++◌, length, Option, Some, None, is_some}
use Rattle.gs_pool.specs.declared.nodes.Node.{Node}
use Rattle.gs_pool.specs.Pool.{Nodes, NodeMark, plain, aside, retired, node_at, mark_at}
use Rattle.gs_tree.specs.Tree.{Tree, leaf, tree_at}
use Rattle.gs_event.specs.Waste.{Lifetime}
use Rattle.gs_ledger.specs.Entries.{Dead, lives}

-- the death that a mark says, and whether all nodes below died too; a plain node is not dead
abbrev pub death_of : NodeMark → Option (ℕ × Bool)
death_of plain = None
death_of (aside death whole) = Some (death, whole)
death_of (retired death whole) = Some (death, whole)

-- a side of a dead node: the tree below a root, if it went with the node
abbrev pub side_at : Nodes → Bool → Option ℕ → Tree
side_at p whole root = if whole then tree_at p root else leaf

-- a number as a dead node, where it has a node and a death
abbrev pub dead_entry_at : Nodes → ℕ → Option Node → Option (ℕ × Bool) → List Dead
dead_entry_at p x None death = []
dead_entry_at p x (Some n) None = []
dead_entry_at p x (Some n) (Some d) =
    record {
      id = x;
      birth = n.birth;
      death = d.0;
      whole = d.1;
      left = side_at p d.1 n.left;
      right = side_at p d.1 n.right;
    } ∷ []

-- the dead nodes among the numbers below n
abbrev pub dead_below : ℕ → Nodes → List Dead
dead_below zero p = []
dead_below (suc n) p = dead_entry_at p n (node_at p n) (death_of (mark_at p n)) ++ dead_below n p

-- all dead nodes of a pool
abbrev pub dead_at : Nodes → List Dead
dead_at p = dead_below (length p.nodes) p

-- its waste: the lifetimes of these and of what went with them
abbrev pub waste_at : Nodes → List Lifetime
waste_at p = lives (dead_at p)

-- 1 at a number in use
abbrev pub used_count : Nodes → ℕ → ℕ
used_count p x = if is_some (node_at p x) then 1 else 0
