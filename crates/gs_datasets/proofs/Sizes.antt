-- What a dataset has is what the versions say.
use Rattle.std.proofs.Common.{◌≡◌, ℕ, List, [], ◌∷◌, map, length, Option, Some, None, is_some, option_map, unwrap_or, refl, sym, ap, subst, ◌∙◌, arith}
use Rattle.std.specs.List.{All, sum_by}
use Rattle.std.specs.FinMap as fin
use Rattle.std.proofs.lemmas.List.{length-map, nil_from_length}
use Rattle.std.proofs.lemmas.List.Elements.{All-head, All-tail, All-cons, All-nil}
use Rattle.std.proofs.lemmas.List.Sums.{sum_by-cons}
use Rattle.gs_model.specs.Graphs.{Graph, size_of, triples_of}
use Rattle.gs_model.specs.Triples.{line_of}
use Rattle.gs_term.specs.declared.names.Target.{Target}
use Rattle.gs_term.specs.declared.names.Target.TheVariants.{Default, Named}
use Rattle.gs_term.specs.Names.{name_cmp}
use Rattle.gs_event.specs.Datasets.{empty_dataset, graph_at, is_there, lines_if, size_at, triples_in, names_in}
use Rattle.gs_pool.specs.Pool.{Nodes}
use Rattle.gs_tree.specs.Tree.{keys}
use Rattle.gs_keys.specs.Texts.{Terms, triple_at}
use Rattle.gs_keys.proofs.KeyLemmas.{triples_of_keys}
use Rattle.gs_catalogue.specs.declared.versions.GraphVersion.{GraphVersion}
use Rattle.gs_catalogue.specs.Catalogues.{GraphVersions, empty_version, no_versions, version_at, name_count, triple_count}
use Rattle.gs_datasets.specs.Standing.{version_graph, dataset_at, all_versions, count_at, version_tree, IsVersion}
use Rattle.gs_datasets.specs.Datasets.{IsEmpty}
use Rattle.gs_datasets.proofs.Values.{entries-with_values, get-with_values, len-with_values, with_values-empty}
use Rattle.gs_datasets.proofs.Parting.{all_target}

module _ (terms : Terms) (p : Nodes) where
  -- a target's graph is that of its version
  pub graph_at-is : (g : GraphVersions) (t : Target) → graph_at (dataset_at terms p g) t ≡ option_map (version_graph terms p) (version_at g t)
  graph_at-is g Default = refl
  graph_at-is g (Named n) = get-with_values (version_graph terms p) g.named n

  is_some-map : (o : Option GraphVersion) → is_some (option_map (version_graph terms p) o) ≡ is_some o
  is_some-map None = refl
  is_some-map (Some v) = refl

  -- it is there where its version is
  pub is_there-is : (g : GraphVersions) (t : Target) → is_there (dataset_at terms p g) t ≡ is_some (version_at g t)
  is_there-is g t = ap is_some (graph_at-is g t) ∙ is_some-map (version_at g t)

  -- a graph has a triple for each key
  size_of-version : (v : GraphVersion) → IsVersion terms p v → size_of (version_graph terms p v) ≡ v.triples
  size_of-version v is =
      let ks = keys (version_tree p v) in
      ap length (triples_of_keys terms ks is.keyed.rising is.keyed.given) ∙ length-map ks (triple_at terms) ∙ sym is.counted

  size_if : (g : GraphVersions) (t : Target) → All (IsVersion terms p) (all_versions g) → (o : Option GraphVersion) → version_at g t ≡ o → length (lines_if (option_map (version_graph terms p) o)) ≡ unwrap_or (option_map (λ v. v.triples) o) 0
  size_if g t all None is = refl
  size_if g t all (Some v) is = length-map (triples_of (version_graph terms p v)) line_of ∙ size_of-version v (all_target (IsVersion terms p) g t v is all)

  -- it has as many triples as its version says
  pub size_at-is : (g : GraphVersions) (t : Target) → All (IsVersion terms p) (all_versions g) → size_at (dataset_at terms p g) t ≡ count_at g t
  size_at-is g t all = ap (λ o. length (lines_if o)) (graph_at-is g t) ∙ size_if g t all (version_at g t) refl

  sum_is : (es : List (List ℕ × GraphVersion)) → All (IsVersion terms p) (map (λ e. e.1) es)
      → sum_by (λ (e : List ℕ × Graph). size_of e.1) (map (λ e. (e.0, version_graph terms p e.1)) es) ≡ sum_by (λ e. e.1.triples) es
  sum_is [] all = refl
  sum_is (e ∷ es) all =
      let rest = map (λ d. d.1) es in
      omega (
        arith,
        sum_by-cons (λ (d : List ℕ × Graph). size_of d.1) (e.0, version_graph terms p e.1) (map (λ d. (d.0, version_graph terms p d.1)) es),
        sum_by-cons (λ (d : List ℕ × GraphVersion). d.1.triples) e es,
        size_of-version e.1 (All-head (IsVersion terms p) e.1 rest all),
        sum_is es (All-tail (IsVersion terms p) e.1 rest all),
      )

  -- and all graphs as all versions say
  pub triples_in-is : (g : GraphVersions) → All (IsVersion terms p) (all_versions g) → triples_in (dataset_at terms p g) ≡ triple_count g
  triples_in-is g all =
      let vs = fin.values g.named in
      omega (
        arith,
        size_of-version g.unnamed (All-head (IsVersion terms p) g.unnamed vs all),
        ap (sum_by (λ (e : List ℕ × Graph). size_of e.1)) (entries-with_values (version_graph terms p) g.named),
        sum_is (fin.entries g.named) (All-tail (IsVersion terms p) g.unnamed vs all),
      )

  -- names are those of versions
  pub names_in-is : (g : GraphVersions) → names_in (dataset_at terms p g) ≡ name_count g
  names_in-is g = len-with_values (version_graph terms p) g.named

  empty_is : IsVersion terms p empty_version
  empty_is = record { root_is = refl; keyed = record { balanced = tt; rising = tt; given = tt }; counted = refl }

  -- the versions of a new store stand for the empty dataset
  pub none_at_all : IsEmpty terms p
  none_at_all =
      let P = IsVersion terms p in
      let none : fin.entries (no_versions.named) ≡ [] = nil_from_length _ (sym (fin.len-entries no_versions.named) ∙ fin.len-empty name_cmp GraphVersion) in
      let named = with_values-empty (version_graph terms p) in
      record {
        dataset = λ i. record { unnamed = empty_dataset.unnamed; named = named i };
        versions = All-cons P empty_version (fin.values no_versions.named) empty_is (subst (λ es. All P (map (λ e. e.1) es)) (sym none) (All-nil P));
      }
