-- What the versions of all graphs stand for, over the terms of a dictionary and a pool of nodes: a dataset, and the trees of its graphs.
use Rattle.std.specs.Prelude.{◌≡◌, ℕ, List, ◌∷◌, length, map as map_each}
use Rattle.std.specs.Option.{option_map, unwrap_or}
use Rattle.std.specs.List.{All}
use Rattle.std.specs.FinMap as map
use Rattle.gs_model.specs.Graphs.{Graph, graph_of}
use Rattle.gs_term.specs.declared.names.Target.{Target}
use Rattle.gs_term.specs.declared.names.Target.TheVariants.{Default, Named}
use Rattle.gs_term.specs.Names.{name_cmp}
use Rattle.gs_event.specs.Datasets.{Dataset}
use Rattle.gs_pool.specs.Pool.{Nodes}
use Rattle.gs_tree.specs.Keys.{AllKeys, IsRising}
use Rattle.gs_tree.specs.Tree.{Tree, leaf, root_of, keys, IsBalanced, tree_at}
use Rattle.gs_keys.specs.Texts.{Terms, triple_at, key_cmp, IsGiven}
use Rattle.gs_keys.specs.Roots.{graph_of_root}
use Rattle.gs_catalogue.specs.declared.versions.GraphVersion.{GraphVersion}
use Rattle.gs_catalogue.specs.Catalogues.{GraphVersions, version_at}

-- the map in which each name has what f makes of its value
abbrev pub with_values : {X Y : Type 0} → (X → Y) → map.FinMap name_cmp X → map.FinMap name_cmp Y
with_values f m = map.from_sorted (map_each (λ e. (e.0, f e.1)) (map.entries m))

-- the graph of a version: that of its root
abbrev pub version_graph : Terms → Nodes → GraphVersion → Graph
version_graph terms p v = graph_of_root terms p v.root

-- the dataset of the versions: the graph of each
abbrev pub dataset_at : Terms → Nodes → GraphVersions → Dataset
dataset_at terms p g = record { unnamed = version_graph terms p g.unnamed; named = with_values (version_graph terms p) g.named }

-- the versions as a list: that of the default graph, and those by name
abbrev pub all_versions : GraphVersions → List GraphVersion
all_versions g = g.unnamed ∷ map.values g.named

-- those of all graphs but the target's
abbrev pub other_versions : GraphVersions → Target → List GraphVersion
other_versions g Default = map.values g.named
other_versions g (Named name) = g.unnamed ∷ map.values (map.remove g.named name)

-- how many triples a target's version says that it has, 0 where it is missing
abbrev pub count_at : GraphVersions → Target → ℕ
count_at g t = unwrap_or (option_map (λ v. v.triples) (version_at g t)) 0

-- the tree of a version: what its root means
abbrev pub version_tree : Nodes → GraphVersion → Tree
version_tree p v = tree_at p v.root

-- the trees of all versions
abbrev pub graph_trees : Nodes → GraphVersions → List Tree
graph_trees p g = map_each (version_tree p) (all_versions g)

-- the trees of all versions but the target's
abbrev pub other_trees : Nodes → GraphVersions → Target → List Tree
other_trees p g t = map_each (version_tree p) (other_versions g t)

-- the tree of the target's version, a leaf where it is missing
abbrev pub target_tree : Nodes → GraphVersions → Target → Tree
target_tree p g t = unwrap_or (option_map (version_tree p) (version_at g t)) leaf

-- a balanced tree of keys in the order of their texts, whose numbers all have terms
pub record IsKeyed (terms : Terms) (t : Tree) : Type 0 where
  pub balanced : IsBalanced t
  pub rising : IsRising (key_cmp terms) (keys t)
  pub given : AllKeys (IsGiven terms) (keys t)

-- the graph of a tree: the triples of its keys
abbrev pub tree_graph : Terms → Tree → Graph
tree_graph terms t = graph_of (map_each (triple_at terms) (keys t))

-- a version whose root is the top of such a tree, and whose count is how many keys it has
pub record IsVersion (terms : Terms) (p : Nodes) (v : GraphVersion) : Type 0 where
  pub root_is : root_of (version_tree p v) ≡ v.root
  pub keyed : IsKeyed terms (version_tree p v)
  pub counted : v.triples ≡ length (keys (version_tree p v))

-- in both pools the root of each of these versions means the same tree
abbrev pub AreSameIn : Nodes → Nodes → List GraphVersion → Type 0
AreSameIn p q vs = All (λ v. version_tree q v ≡ version_tree p v) vs
