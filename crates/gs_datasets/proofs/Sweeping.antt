-- Versions of graphs, where two lists of terms say the same of the keys of all nodes.
use Rattle.std.proofs.Common.{◌≡◌, ℕ, Option, ap}
use Rattle.gs_model.specs.Graphs.{graph_of}
use Rattle.gs_pool.specs.Pool.{Nodes}
use Rattle.gs_tree.specs.Keys.{AllKeys}
use Rattle.gs_tree.specs.Tree.{Tree, keys, tree_at}
use Rattle.gs_keys.specs.Texts.{Terms, AgreeOn}
use Rattle.gs_keys.specs.Roots.{AgreeOnNodes}
use Rattle.gs_keys.proofs.RootLemmas.{rising_same, triples_same, all_given_same}
use Rattle.gs_keys.proofs.NodeLemmas.{keys_agree, graph_of_root_same}
use Rattle.gs_catalogue.specs.declared.versions.GraphVersion.{GraphVersion}
use Rattle.gs_catalogue.specs.Catalogues.{GraphVersions}
use Rattle.gs_datasets.specs.Standing.{with_values, version_graph, dataset_at, IsKeyed, IsVersion}
use Rattle.gs_datasets.specs.Trees.{Outlasts}

-- a tree of keys on which the lists agree is keyed where it was, and its graph is the same
pub tree_same : (terms later : Terms) (t : Tree) → AllKeys (AgreeOn terms later) (keys t) → IsKeyed terms t → Outlasts terms later t
tree_same terms later t gs k = record {
  keyed = record { balanced = k.balanced; rising = rising_same terms later (keys t) gs k.rising; given = all_given_same terms later (keys t) k.given gs };
  same = ap graph_of (triples_same terms later (keys t) gs);
}

module _ (terms later : Terms) (p : Nodes) (nodes : AgreeOnNodes terms later p) where
  -- a root's tree is keyed where it was
  pub keyed_same : (root : Option ℕ) → IsKeyed terms (tree_at p root) → IsKeyed later (tree_at p root)
  keyed_same root k = (tree_same terms later (tree_at p root) (keys_agree terms later p nodes root) k).keyed

  -- the version of a graph is one still
  pub version_same : (v : GraphVersion) → IsVersion terms p v → IsVersion later p v
  version_same v h = record { root_is = h.root_is; keyed = keyed_same v.root h.keyed; counted = h.counted }

  -- the dataset of versions is the same
  pub dataset_at_same : (g : GraphVersions) → dataset_at later p g ≡ dataset_at terms p g
  dataset_at_same g =
      let each : version_graph later p ≡ version_graph terms p = λ i v. graph_of_root_same terms later p nodes v.root i in
      λ i. record { unnamed = each i g.unnamed; named = with_values (each i) g.named }
