-- The graph that a root stands for.
use Rattle.std.specs.Prelude.{◌≡◌, ℕ, map, Option, Some}
use Rattle.gs_model.specs.Graphs.{Graph, graph_of}
use Rattle.gs_pool.specs.declared.nodes.Node.{Node}
use Rattle.gs_pool.specs.Pool.{Nodes, node_at}
use Rattle.gs_tree.specs.Keys.{AllKeys}
use Rattle.gs_tree.specs.Reading.{IsReadableAt, keys_at}
use Rattle.gs_keys.specs.Texts.{Terms, triple_at, key_cmp, IsGiven, AgreeOn}

-- the graph of a root: the triples of its keys
abbrev pub graph_of_root : Terms → Nodes → Option ℕ → Graph
graph_of_root terms p root = graph_of (map (triple_at terms) (keys_at p root))

-- a root means keys in the order of their texts, whose numbers all have terms
pub record IsGraphAt (terms : Terms) (p : Nodes) (root : Option ℕ) : Type 0 where
  pub set : IsReadableAt (key_cmp terms) p root
  pub given : AllKeys (IsGiven terms) (keys_at p root)

-- among the later terms a root stands for the same graph
pub record IsKeptAmong (terms later : Terms) (p : Nodes) (root : Option ℕ) : Type 0 where
  pub graph : IsGraphAt later p root
  pub same : graph_of_root later p root ≡ graph_of_root terms p root

-- both lists of terms say the same of the keys of all nodes in use
abbrev pub AgreeOnNodes : Terms → Terms → Nodes → Type 0
AgreeOnNodes terms later p = (id : ℕ) (n : Node) → node_at p id ≡ Some n → AgreeOn terms later n.key
