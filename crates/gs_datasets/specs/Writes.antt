-- A write changes the graph of one target, from the pool p to q, and from the terms to later ones: the statements of laws.
use Rattle.std.specs.Prelude.{◌≡◌, ℕ, List, ◌∷◌}
use Rattle.std.specs.List.{All}
use Rattle.gs_term.specs.declared.names.Target.{Target}
use Rattle.gs_term.specs.declared.names.Target.TheVariants.{Named}
use Rattle.gs_event.specs.Datasets.{with_graph, without_graph}
use Rattle.gs_pool.specs.Pool.{Nodes}
use Rattle.gs_tree.specs.Tree.{leaf}
use Rattle.gs_keys.specs.Texts.{Terms, KeepTerms}
use Rattle.gs_catalogue.specs.declared.versions.GraphVersion.{GraphVersion}
use Rattle.gs_catalogue.specs.Catalogues.{GraphVersions, with_version, without_name}
use Rattle.gs_ledger.specs.Changes.{AreSameTrees}
use Rattle.gs_datasets.specs.Standing.{version_graph, dataset_at, all_versions, other_versions, version_tree, graph_trees, other_trees, target_tree, IsVersion, AreSameIn}

-- With a version for the target, all are versions; the dataset has its graph for the target's, and no other graph changes; the trees are its tree and the others, as they were in p.
pub record SetsOne (terms later : Terms) (p q : Nodes) (g : GraphVersions) (t : Target) (v : GraphVersion) : Type 0 where
  pub versions : All (IsVersion later q) (all_versions (with_version g t v))
  pub dataset : dataset_at later q (with_version g t v) ≡ with_graph (dataset_at terms p g) t (version_graph later q v)
  pub trees : AreSameTrees (version_tree q v ∷ other_trees p g t) (graph_trees q (with_version g t v))

-- Without a name, the dataset lacks its graph, and no other graph changes; the trees are the others, as they were in p, where a leaf stands for that of the name.
pub record TakesName (terms : Terms) (p q : Nodes) (g : GraphVersions) (name : List ℕ) : Type 0 where
  pub versions : All (IsVersion terms q) (all_versions (without_name g name))
  pub dataset : dataset_at terms q (without_name g name) ≡ without_graph (dataset_at terms p g) (Named name)
  pub trees : AreSameTrees (leaf ∷ other_trees p g (Named name)) (graph_trees q (without_name g name))

-- all are versions as before, of the same dataset and the same trees
pub record KeepsDataset (terms later : Terms) (p q : Nodes) (g : GraphVersions) : Type 0 where
  pub versions : All (IsVersion later q) (all_versions g)
  pub dataset : dataset_at later q g ≡ dataset_at terms p g
  pub trees : graph_trees q g ≡ graph_trees p g

-- where the trees of the other versions are the same in both pools, a version of q is set for the target
abbrev pub OneIsSet : Type 0
OneIsSet =
    (terms later : Terms) → KeepTerms terms later → (p q : Nodes) (g : GraphVersions) (t : Target) (v : GraphVersion)
    → All (IsVersion terms p) (all_versions g) → AreSameIn p q (other_versions g t)
    → IsVersion later q v → SetsOne terms later p q g t v

-- where they are, a name is taken out
abbrev pub NameIsTaken : Type 0
NameIsTaken =
    (terms : Terms) (p q : Nodes) (g : GraphVersions) (name : List ℕ)
    → All (IsVersion terms p) (all_versions g) → AreSameIn p q (other_versions g (Named name))
    → TakesName terms p q g name

-- where the trees of all versions are the same in both pools, nothing changes
abbrev pub AllStay : Type 0
AllStay =
    (terms later : Terms) → KeepTerms terms later → (p q : Nodes) (g : GraphVersions)
    → All (IsVersion terms p) (all_versions g) → AreSameIn p q (all_versions g)
    → KeepsDataset terms later p q g

-- before a write, the trees are the target's, a leaf where it is missing, and the others
abbrev pub OneIsApart : Type 0
OneIsApart = (p : Nodes) (g : GraphVersions) (t : Target) → AreSameTrees (graph_trees p g) (target_tree p g t ∷ other_trees p g t)
