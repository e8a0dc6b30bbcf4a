-- The counts of the books are those of its dataset, and numbers that a `u64` holds.
use Rattle.std.proofs.Common.{◌≡◌, ℕ, ◌≤◌, true, false, cond, List, [], ◌∷◌, map, length, Option, Some, None, is_some, option_map, unwrap_or, refl, sym, ap, ◌∙◌, arith, true≢false}
use Rattle.std.specs.List.{All, sum_by}
use Rattle.std.specs.FinMap as fin
use Rattle.std.proofs.lemmas.List.{length-map}
use Rattle.std.proofs.lemmas.List.Elements.{All-head, All-tail}
use Rattle.std.proofs.lemmas.List.Sums.{sum_by-cons}
use Rattle.gs_model.specs.Graphs.{Graph, size_of}
use Rattle.gs_term.specs.declared.names.Target.{Target}
use Rattle.gs_term.specs.declared.names.Target.TheVariants.{Named}
use Rattle.gs_event.specs.declared.verdicts.Verdict.TheVariants.{Full, LastNumber, Granted}
use Rattle.gs_event.specs.Datasets.{Dataset, with_graph, is_there, lines_if, graph_at as graph_of_target, size_at}
use Rattle.gs_event.specs.Names.{new_name}
use Rattle.gs_event.specs.Operations.{Setting, Operation, Creates, is_within, after, status_of, location_of, stored, stored_status, is_success}
use Rattle.gs_event.specs.Verdicts.{is_named, place_in, DecidesStore}
use Rattle.gs_event.proofs.VerdictLemmas.{made_well}
use Rattle.gs_event.proofs.NameLemmas.{new_name-is_least}
use Rattle.gs_pool.specs.Pool.{Nodes, in_use}
use Rattle.gs_tree.specs.Tree.{Tree, keys}
use Rattle.gs_keys.specs.Texts.{Terms, triple_at}
use Rattle.gs_keys.specs.Roots.{graph_of_root}
use Rattle.gs_keys.proofs.KeyLemmas.{triples_of_keys}
use Rattle.gs_catalogue.specs.declared.versions.GraphVersion.{GraphVersion}
use Rattle.gs_catalogue.specs.Catalogues.{GraphVersions, empty_version, version_at, triple_count}
use Rattle.gs_ledger.specs.Entries.{keys_in}
use Rattle.gs_ledger.specs.Marks.{dead_at}
use Rattle.gs_ledger.specs.Laws.{Counts}
use Rattle.gs_ledger.proofs.Counts.{nodes_counted}
use Rattle.gs_datasets.specs.Standing.{all_versions, version_tree, graph_trees, IsVersion}
use Rattle.gs_datasets.proofs.Sizes.{size_at-is, is_there-is}
use Rattle.gs_tree_store.specs.declared.books.Books.{Books}
use Rattle.gs_tree_store.specs.Books.{graphs_of, dataset_of, IsFound, IsSound}
use Rattle.gs_tree_store.specs.Verdicts.{place_by, HasCounts}

module _ (terms : Terms) (p : Nodes) where
  keys_counted : (es : List (List ℕ × GraphVersion)) → All (IsVersion terms p) (map (λ e. e.1) es)
      → keys_in (map (version_tree p) (map (λ e. e.1) es)) ≡ sum_by (λ e. e.1.triples) es
  keys_counted [] all = refl
  keys_counted (e ∷ es) all =
      let rest = map (λ d. d.1) es in
      omega (
        arith,
        sum_by-cons (λ (t : Tree). length (keys t)) (version_tree p e.1) (map (version_tree p) rest),
        sum_by-cons (λ (d : List ℕ × GraphVersion). d.1.triples) e es,
        (All-head (IsVersion terms p) e.1 rest all).counted,
        keys_counted es (All-tail (IsVersion terms p) e.1 rest all),
      )

  -- the trees of all graphs have as many keys as all versions say
  pub keys_of_graphs : (g : GraphVersions) → All (IsVersion terms p) (all_versions g) → keys_in (graph_trees p g) ≡ triple_count g
  keys_of_graphs g all =
      let vs = fin.values g.named in
      omega (
        arith,
        sum_by-cons (λ (t : Tree). length (keys t)) (version_tree p g.unnamed) (map (version_tree p) vs),
        (All-head (IsVersion terms p) g.unnamed vs all).counted,
        keys_counted (fin.entries g.named) (All-tail (IsVersion terms p) g.unnamed vs all),
      )

  -- a version has as many triples as it says
  pub size_of_version : (v : GraphVersion) → IsVersion terms p v → v.triples ≡ size_of (graph_of_root terms p v.root)
  size_of_version v is =
      let ks = keys (version_tree p v) in
      is.counted ∙ sym (ap length (triples_of_keys terms ks is.keyed.rising is.keyed.given) ∙ length-map ks (triple_at terms))

-- the triples of all graphs are nodes in use
pub triples_in_use : (b : Books) → HasCounts b → triple_count (graphs_of b) ≤ in_use b.pool
triples_in_use b has =
    let l = has.ledger in
    let c : Counts b.pool (graph_trees b.pool (graphs_of b)) l.uploads (dead_at b.pool) = nodes_counted b.pool b.versions (graph_trees b.pool (graphs_of b)) l.uploads l.reads (dead_at b.pool) l.ledger in
    omega (arith, keys_of_graphs b.dict.terms b.pool (graphs_of b) has.sound.versions, c.nodes)

count_if : (o : Option GraphVersion) → (unwrap_or o empty_version).triples ≡ unwrap_or (option_map (λ v. v.triples) o) 0
count_if None = refl
count_if (Some v) = refl

-- the version of a target counts its triples
pub target_counted : (b : Books) (t : Target) (v : GraphVersion) → IsSound b → v ≡ unwrap_or (version_at (graphs_of b) t) empty_version → v.triples ≡ size_at (dataset_of b) t
target_counted b t v sound is =
    ap (λ (w : GraphVersion). w.triples) is ∙ count_if (version_at (graphs_of b) t) ∙ sym (size_at-is b.dict.terms b.pool (graphs_of b) t sound.versions)

-- a target as it was found is that of the dataset
pub place_found : (b : Books) (t : Target) (found : Option GraphVersion) → IsSound b → IsFound b t found → place_by t found ≡ place_in (dataset_of b) t
place_found b t found sound is =
    let there : is_some found ≡ is_there (dataset_of b) t = ap is_some is ∙ sym (is_there-is b.dict.terms b.pool (graphs_of b) t) in
    let triples : (unwrap_or found empty_version).triples ≡ size_at (dataset_of b) t = target_counted b t (unwrap_or found empty_version) sound (ap (λ (o : Option GraphVersion). unwrap_or o empty_version) is) in
    λ i. record { is_name = is_named t; is_there = there i; triples = triples i }

-- an operation that stored g at t, with this status
pub record IsStored (w : Setting) (m : Dataset) (q : Operation) (t : Target) (g : Graph) (status : ℕ) : Type 0 where
  pub status_is : status ≡ status_of w m q
  pub well : is_success status ≡ true
  pub dataset : after w m q ≡ with_graph m t g

-- an operation that was beyond the limits
pub record IsNotStored (w : Setting) (m : Dataset) (q : Operation) : Type 0 where
  pub status_is : 507 ≡ status_of w m q
  pub dataset : after w m q ≡ m

-- What was decided of an operation that stores g at t.
module _ (w : Setting) (m : Dataset) (c : ℕ) (q : Operation) (t : Target) (g : Graph) (status_is : status_of w m q ≡ stored_status w m t g) (dataset_is : after w m q ≡ stored w m t g) where
  status_within : is_within w.limits (with_graph m t g) ≡ true → status_of w m q ≡ cond (is_there m t) 204 201
  status_within within = status_is ∙ ap (λ b. cond b (cond (is_there m t) 204 201) 507) within

  pub is_stored : (status triples names : ℕ) → DecidesStore w m c t g (Granted status triples names) → IsStored w m q t g status
  is_stored status triples names decided = record {
    status_is = decided.1 ∙ sym (status_within decided.0);
    well = ap is_success decided.1 ∙ made_well (is_there m t);
    dataset = dataset_is ∙ ap (λ b. cond b (with_graph m t g) m) decided.0;
  }

  pub is_not_stored : DecidesStore w m c t g Full → IsNotStored w m q
  is_not_stored decided = record {
    status_is = sym (status_is ∙ ap (λ b. cond b (cond (is_there m t) 204 201) 507) decided);
    dataset = dataset_is ∙ ap (λ b. cond b (with_graph m t g) m) decided;
  }

  -- it would be stored, but for its commit number
  pub would_be_stored : DecidesStore w m c t g LastNumber → is_success (status_of w m q) ≡ true
  would_be_stored decided = ap is_success (status_within decided.0) ∙ made_well (is_there m t)

-- where a new graph is stored, its name is reported
pub name_reported : (w : Setting) (m : Dataset) (r : ℕ) (g : Graph) → is_within w.limits (with_graph m (Named (new_name w.base m r)) g) ≡ true → Some (new_name w.base m r) ≡ location_of w m (Creates r g)
name_reported w m r g within = sym (ap (λ b. cond b (Some (new_name w.base m r)) None) within)

pub no_name_reported : (w : Setting) (m : Dataset) (r : ℕ) (g : Graph) → is_within w.limits (with_graph m (Named (new_name w.base m r)) g) ≡ false → None ≡ location_of w m (Creates r g)
no_name_reported w m r g full = sym (ap (λ b. cond b (Some (new_name w.base m r)) None) full)

none_there : (o : Option Graph) → is_some o ≡ false → length (lines_if o) ≡ 0
none_there None e = refl
none_there (Some g) e = absurd (true≢false e)

-- a name that is made up has no triple
pub new_is_empty : (base : List ℕ) (m : Dataset) (r : ℕ) → size_at m (Named (new_name base m r)) ≡ 0
new_is_empty base m r = none_there (graph_of_target m (Named (new_name base m r))) (new_name-is_least base m r).free
