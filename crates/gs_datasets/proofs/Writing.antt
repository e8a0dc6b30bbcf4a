-- A write changes the graph of one target.
use Rattle.std.proofs.Common.{◌≡◌, ℕ, List, [], ◌∷◌, ◌++◌, map, length, Option, Some, None, option_map, unwrap_or, refl, sym, ap, subst, ◌∙◌}
use Rattle.std.specs.List.{All, cons_option}
use Rattle.std.specs.FinMap as fin
use Rattle.std.proofs.lemmas.List.{map-append}
use Rattle.std.proofs.lemmas.List.Elements.{All-head, All-tail}
use Rattle.gs_model.specs.Graphs.{Graph}
use Rattle.gs_term.specs.declared.names.Target.{Target}
use Rattle.gs_term.specs.declared.names.Target.TheVariants.{Default, Named}
use Rattle.gs_term.specs.Names.{name_cmp}
use Rattle.gs_event.specs.Datasets.{Dataset, with_graph, without_graph}
use Rattle.gs_pool.specs.Pool.{Nodes}
use Rattle.gs_tree.specs.Tree.{Tree, leaf, root_of, keys}
use Rattle.gs_keys.specs.Texts.{Terms, KeepTerms}
use Rattle.gs_catalogue.specs.declared.versions.GraphVersion.{GraphVersion}
use Rattle.gs_catalogue.specs.Catalogues.{GraphVersions, version_at, with_version, without_name}
use Rattle.gs_ledger.specs.Changes.{AreSameTrees}
use Rattle.gs_datasets.specs.Standing.{with_values, version_graph, dataset_at, all_versions, other_versions, version_tree, graph_trees, other_trees, target_tree, IsKeyed, tree_graph, IsVersion, AreSameIn}
use Rattle.gs_datasets.specs.Writes.{SetsOne, TakesName, KeepsDataset}
use Rattle.gs_datasets.specs.Trees.{Outlasts}
use Rattle.gs_datasets.proofs.Values.{with_values-insert, with_values-remove, insert-remove, with_values_agree}
use Rattle.gs_datasets.proofs.Parting.{parted, all_others, all_with}
use Rattle.gs_datasets.proofs.Outlasting.{keys_outlast, keys_last}
use Rattle.gs_datasets.proofs.Lists.{tree_back, tree_front, leaf_more, leaf_less}

-- the same parts are the same dataset
same_dataset : (g h : Graph) (m n : fin.FinMap name_cmp Graph) → g ≡ h → m ≡ n → ◌≡◌ {A = Dataset} (record { unnamed = g; named = m }) (record { unnamed = h; named = n })
same_dataset g h m n a b = λ i. record { unnamed = a i; named = b i }

-- versions with the same trees in both pools, by their lists of trees
pub same_trees : (p q : Nodes) (vs : List GraphVersion) → AreSameIn p q vs → map (version_tree q) vs ≡ map (version_tree p) vs
same_trees p q [] same = refl
same_trees p q (v ∷ vs) same =
    let first = All-head (λ w. version_tree q w ≡ version_tree p w) v vs same in
    let rest = same_trees p q vs (All-tail (λ w. version_tree q w ≡ version_tree p w) v vs same) in
    λ i. first i ∷ rest i

-- The terms and the pool that versions go to, where keyed trees outlast the change of terms.
module _ (terms later : Terms) (last : (t : Tree) → IsKeyed terms t → Outlasts terms later t) (p q : Nodes) where
  -- a version whose tree is the same is one
  version_kept : (v : GraphVersion) → IsVersion terms p v → version_tree q v ≡ version_tree p v → IsVersion later q v
  version_kept v is same = record {
    root_is = ap root_of same ∙ is.root_is;
    keyed = subst (IsKeyed later) (sym same) (last (version_tree p v) is.keyed).keyed;
    counted = subst (λ t. v.triples ≡ length (keys t)) (sym same) is.counted;
  }

  -- and it has the same graph
  graph_kept : (v : GraphVersion) → IsVersion terms p v → version_tree q v ≡ version_tree p v → version_graph later q v ≡ version_graph terms p v
  graph_kept v is same = ap (tree_graph later) same ∙ (last (version_tree p v) is.keyed).same

  -- such versions are versions
  pub versions_kept : (vs : List GraphVersion) → All (IsVersion terms p) vs → AreSameIn p q vs → All (IsVersion later q) vs
  versions_kept vs all same = λ k v h. version_kept _ (all k v h) (same k v h)

  -- so has a map of such versions
  values_kept : (m : fin.FinMap name_cmp GraphVersion) → All (IsVersion terms p) (fin.values m) → AreSameIn p q (fin.values m) → with_values (version_graph later q) m ≡ with_values (version_graph terms p) m
  values_kept m all same = with_values_agree (version_graph later q) (version_graph terms p) m (λ k v h. graph_kept _ (all k v h) (same k v h))

  -- and the default graph of one
  module _ (u : GraphVersion) (vs : List GraphVersion) (all : All (IsVersion terms p) (u ∷ vs)) (same : AreSameIn p q (u ∷ vs)) where
    first_kept : version_graph later q u ≡ version_graph terms p u
    first_kept = graph_kept u (All-head (IsVersion terms p) u vs all) (All-head (λ v. version_tree q v ≡ version_tree p v) u vs same)

    rest_versions : All (IsVersion terms p) vs
    rest_versions = All-tail (IsVersion terms p) u vs all

    rest_same : AreSameIn p q vs
    rest_same = All-tail (λ v. version_tree q v ≡ version_tree p v) u vs same

  -- nothing changes
  pub dataset_kept : (g : GraphVersions) → All (IsVersion terms p) (all_versions g) → AreSameIn p q (all_versions g) → dataset_at later q g ≡ dataset_at terms p g
  dataset_kept g all same =
      let vs = fin.values g.named in
      same_dataset _ _ _ _ (first_kept g.unnamed vs all same) (values_kept g.named (rest_versions g.unnamed vs all same) (rest_same g.unnamed vs all same))

  -- a name's graph is taken out
  pub dataset_without : (g : GraphVersions) (n : List ℕ) → All (IsVersion terms p) (other_versions g (Named n)) → AreSameIn p q (other_versions g (Named n)) → dataset_at later q (without_name g n) ≡ without_graph (dataset_at terms p g) (Named n)
  dataset_without g n all same =
      let m = fin.remove g.named n in
      let vs = fin.values m in
      same_dataset _ _ _ _ (first_kept g.unnamed vs all same)
      (values_kept m (rest_versions g.unnamed vs all same) (rest_same g.unnamed vs all same) ∙ with_values-remove (version_graph terms p) g.named n)

  -- a target's graph is another
  pub dataset_with : (g : GraphVersions) (t : Target) (v : GraphVersion) → All (IsVersion terms p) (other_versions g t) → AreSameIn p q (other_versions g t) → dataset_at later q (with_version g t v) ≡ with_graph (dataset_at terms p g) t (version_graph later q v)
  dataset_with g Default v all same = same_dataset _ _ _ _ refl (values_kept g.named all same)
  dataset_with g (Named n) v all same =
      let new = version_graph later q in
      let old = version_graph terms p in
      let m = fin.remove g.named n in
      let vs = fin.values m in
      same_dataset _ _ _ _ (first_kept g.unnamed vs all same) (
      with_values-insert new g.named n v
      ∙ sym (insert-remove (with_values new g.named) n (new v))
      ∙ ap (λ d. fin.insert d n (new v)) (sym (with_values-remove new g.named n) ∙ values_kept m (rest_versions g.unnamed vs all same) (rest_same g.unnamed vs all same) ∙ with_values-remove old g.named n)
      ∙ insert-remove (with_values old g.named) n (new v)
      )

-- the trees after a version is set
trees_with : (p q : Nodes) (g : GraphVersions) (t : Target) (v : GraphVersion) → AreSameIn p q (other_versions g t) → AreSameTrees (version_tree q v ∷ other_trees p g t) (graph_trees q (with_version g t v))
trees_with p q g t v same =
    let parts = parted g t in
    let tree = version_tree q in
    let others : other_trees p g t ≡ map tree parts.before ++ map tree parts.after =
    sym (same_trees p q (other_versions g t) same) ∙ ap (map tree) parts.others ∙ map-append tree parts.before parts.after in
    let whole : graph_trees q (with_version g t v) ≡ map tree parts.before ++ tree v ∷ map tree parts.after =
    ap (map tree) (parts.set_to v) ∙ map-append tree parts.before (v ∷ parts.after) in
    subst (λ us. AreSameTrees (tree v ∷ us) (graph_trees q (with_version g t v))) (sym others)
    (subst (AreSameTrees (tree v ∷ (map tree parts.before ++ map tree parts.after))) (sym whole) (tree_back (tree v) (map tree parts.before) (map tree parts.after)))

-- A version is set for a target.
pub one_is_set : (terms later : Terms) → KeepTerms terms later → (p q : Nodes) (g : GraphVersions) (t : Target) (v : GraphVersion) → All (IsVersion terms p) (all_versions g) → AreSameIn p q (other_versions g t) → IsVersion later q v → SetsOne terms later p q g t v
one_is_set terms later keep p q g t v all same is =
    let last = keys_outlast terms later keep in
    let others = all_others (IsVersion terms p) g t all in
    record {
      versions = all_with (IsVersion later q) g t v is (versions_kept terms later last p q (other_versions g t) others same);
      dataset = dataset_with terms later last p q g t v others same;
      trees = trees_with p q g t v same;
    }

-- A name is taken out.
pub name_is_taken : (terms : Terms) (p q : Nodes) (g : GraphVersions) (n : List ℕ) → All (IsVersion terms p) (all_versions g) → AreSameIn p q (other_versions g (Named n)) → TakesName terms p q g n
name_is_taken terms p q g n all same =
    let last = keys_last terms in
    let others = all_others (IsVersion terms p) g (Named n) all in
    record {
      versions = versions_kept terms terms last p q (other_versions g (Named n)) others same;
      dataset = dataset_without terms terms last p q g n others same;
      trees = subst (λ us. AreSameTrees (leaf ∷ us) (graph_trees q (without_name g n))) (same_trees p q (other_versions g (Named n)) same) (leaf_less (graph_trees q (without_name g n)));
    }

-- Nothing changes.
pub all_stay : (terms later : Terms) → KeepTerms terms later → (p q : Nodes) (g : GraphVersions) → All (IsVersion terms p) (all_versions g) → AreSameIn p q (all_versions g) → KeepsDataset terms later p q g
all_stay terms later keep p q g all same =
    let last = keys_outlast terms later keep in
    record {
      versions = versions_kept terms later last p q (all_versions g) all same;
      dataset = dataset_kept terms later last p q g all same;
      trees = same_trees p q (all_versions g) same;
    }

-- before a write, the target's tree is apart from the others
apart_if : (tree : GraphVersion → Tree) (o : Option GraphVersion) (before after : List GraphVersion) → AreSameTrees (map tree (before ++ cons_option o after)) (unwrap_or (option_map tree o) leaf ∷ map tree (before ++ after))
apart_if tree None before after = leaf_more (map tree (before ++ after))
apart_if tree (Some v) before after =
    subst (λ us. AreSameTrees us (tree v ∷ map tree (before ++ after))) (sym (map-append tree before (v ∷ after)))
    (subst (λ us. AreSameTrees (map tree before ++ tree v ∷ map tree after) (tree v ∷ us)) (sym (map-append tree before after)) (tree_front (tree v) (map tree before) (map tree after)))

-- The trees before a write.
pub one_is_apart : (p : Nodes) (g : GraphVersions) (t : Target) → AreSameTrees (graph_trees p g) (target_tree p g t ∷ other_trees p g t)
one_is_apart p g t =
    let parts = parted g t in
    let tree = version_tree p in
    subst (λ vs. AreSameTrees (map tree vs) (target_tree p g t ∷ other_trees p g t)) (sym parts.whole)
    (subst (λ vs. AreSameTrees (map tree (parts.before ++ cons_option (version_at g t) parts.after)) (target_tree p g t ∷ map tree vs)) (sym parts.others) (apart_if tree (version_at g t) parts.before parts.after))
