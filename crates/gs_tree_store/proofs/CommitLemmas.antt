-- What the end of a commit makes of the books, beside records that are written.
use Rattle.std.proofs.Common.{◌≡◌, ◌+◌, ◌<◌, ℕ, true, List, [], ◌∷◌, length, get_or, Option, Some, None, option_map, unwrap_or, string_bytes, refl, sym, ap, subst, ◌∙◌, arith}
use Rattle.std.specs.List.{All}
use Rattle.std.proofs.lemmas.List.Elements.{All-head, Contains-get_or}
use Rattle.gs_model.specs.Bases.{is_base}
use Rattle.gs_model.specs.Graphs.{empty_graph}
use Rattle.gs_model.specs.Limits.{last_number, last_node}
use Rattle.gs_term.specs.declared.names.Target.{Target}
use Rattle.gs_term.specs.declared.names.Target.TheVariants.{Default, Named}
use Rattle.gs_event.specs.Datasets.{with_graph, size_at}
use Rattle.gs_event.specs.Conditions.{with_write, with_delete}
use Rattle.gs_event.specs.Born.{Leave}
use Rattle.gs_event.specs.Wasting.{Joins, EndsAt, DeleteRecords}
use Rattle.gs_dict.proofs.NumberLemmas.{keep_same}
use Rattle.gs_pool.specs.Pool.{Nodes, aside_count}
use Rattle.gs_tree.specs.Tree.{Tree, leaf, root_of, keys, tree_at}
use Rattle.gs_keys.specs.Texts.{Terms}
use Rattle.gs_keys.specs.Roots.{graph_of_root}
use Rattle.gs_catalogue.specs.declared.versions.GraphVersion.{GraphVersion}
use Rattle.gs_catalogue.specs.Catalogues.{GraphVersions, empty_version, version_at, with_version, without_name}
use Rattle.gs_records.specs.Records.{Recorded}
use Rattle.gs_records.specs.Graphs.{without_version}
use Rattle.gs_records.specs.Waste.{waste_in}
use Rattle.gs_records.specs.Calls.{KeepsCounts, MakesCurrent}
use Rattle.gs_versions.specs.Pins.{Pins, at_commit}
use Rattle.gs_ledger.specs.Entries.{Dead, tree_births}
use Rattle.gs_ledger.specs.Marks.{dead_at, waste_at}
use Rattle.gs_ledger.specs.Ledger.{IsLedger}
use Rattle.gs_ledger.specs.Changes.{AreSameTrees, AreSameDead}
use Rattle.gs_ledger.proofs.Births.{put_births}
use Rattle.gs_ledger.proofs.Orders.{reorder_ledger}
use Rattle.gs_ledger.proofs.Marked.{same_trees}
use Rattle.gs_reclaim.specs.Reclaims.{CanRetireRoot}
use Rattle.gs_datasets.specs.Standing.{version_graph, dataset_at, all_versions, other_versions, version_tree, graph_trees, other_trees, target_tree, IsKeyed, tree_graph, IsVersion, AreSameIn}
use Rattle.gs_datasets.specs.Writes.{SetsOne}
use Rattle.gs_datasets.proofs.Parting.{all_target}
use Rattle.gs_datasets.proofs.Sizes.{size_at-is}
use Rattle.gs_datasets.proofs.Writing.{one_is_set, name_is_taken, one_is_apart}
use Rattle.gs_commit.specs.Commits.{HandsOver, HandsOverAll}
use Rattle.gs_commit.specs.Laws.{IsRetirable}
use Rattle.gs_commit.proofs.DeadLemmas.{tree_at_same}
use Rattle.gs_commit.proofs.RootLemmas.{ledger_retirable}
use Rattle.gs_commit.proofs.LawLemmas.{leaf_upload}
use Rattle.gs_tree_store.specs.declared.books.Books.{Books}
use Rattle.gs_tree_store.specs.LastWrites.{last_writes_of, WasWritten, by_target}
use Rattle.gs_tree_store.specs.Books.{graphs_of, dataset_of, totals_of, IsFound, IsSound, HasLedger}
use Rattle.gs_tree_store.specs.Births.{graph_births}
use Rattle.gs_tree_store.specs.Opened.{IsOpened, SameOpened}
use Rattle.gs_tree_store.specs.Writes.{KeepsBooks, SetsBirths, EndsOneVersion, Puts, Removes}
use Rattle.gs_tree_store.proofs.WrittenLemmas.{put_writes, put_written}
use Rattle.gs_tree_store.proofs.BornLemmas.{set_bears, gone_bears}
use Rattle.gs_tree_store.proofs.RecordLemmas.{commit_wastes}
use Rattle.gs_tree_store.proofs.OpenedLemmas.{AllSame, all_put, put_lets_go}

-- the version of a target, an empty one where it is missing
abbrev pub version_or : GraphVersions → Target → GraphVersion
version_or g t = unwrap_or (version_at g t) empty_version

-- it is the one that was found, or an empty one
pub version_found : (b : Books) (t : Target) (found : Option GraphVersion) (v : GraphVersion) → v ≡ unwrap_or found empty_version → IsFound b t found → v ≡ version_or (graphs_of b) t
version_found b t found v is there = is ∙ ap (λ (o : Option GraphVersion). unwrap_or o empty_version) there

tree_if : (p : Nodes) (o : Option GraphVersion) → tree_at p (unwrap_or o empty_version).root ≡ unwrap_or (option_map (version_tree p) o) leaf
tree_if p None = refl
tree_if p (Some v) = refl

-- its root means the target's tree
pub tree_of_target : (p : Nodes) (g : GraphVersions) (t : Target) → tree_at p (version_or g t).root ≡ target_tree p g t
tree_of_target p g t = tree_if p (version_at g t)

-- dead nodes are the same as themselves
pub same_dead : (ds : List Dead) → AreSameDead ds ds
same_dead ds = record { sums = λ f. refl; each = λ k d h. Contains-get_or ds k d h }

-- the target's tree comes to the head of the graphs
pub apart_ledger : (p : Nodes) (v : Pins) (g : GraphVersions) (t : Target) (us : List Tree) (rs : List (List Tree)) (ds : List Dead) → IsLedger p v (graph_trees p g) us rs ds → IsLedger p v (tree_at p (version_or g t).root ∷ other_trees p g t) us rs ds
apart_ledger p v g t us rs ds l =
    subst (λ x. IsLedger p v (x ∷ other_trees p g t) us rs ds) (sym (tree_of_target p g t))
    (reorder_ledger p v (graph_trees p g) (target_tree p g t ∷ other_trees p g t) us us rs ds ds (one_is_apart p g t) (same_trees us) (same_dead ds) l)

-- The versions of all graphs, and a target.
module _ (terms : Terms) (p : Nodes) (g : GraphVersions) (t : Target) (all : All (IsVersion terms p) (all_versions g)) where
  root_if : (o : Option GraphVersion) → version_at g t ≡ o → root_of (tree_at p (unwrap_or o empty_version).root) ≡ (unwrap_or o empty_version).root
  root_if None is = refl
  root_if (Some v) is = (all_target (IsVersion terms p) g t v is all).root_is

  keys_if : (o : Option GraphVersion) → version_at g t ≡ o → length (keys (tree_at p (unwrap_or o empty_version).root)) ≡ unwrap_or (option_map (λ v. v.triples) o) 0
  keys_if None is = refl
  keys_if (Some v) is = sym (all_target (IsVersion terms p) g t v is all).counted

  -- it has as many keys as the target has triples
  pub keys_of_target : length (keys (tree_at p (version_or g t).root)) ≡ size_at (dataset_at terms p g) t
  keys_of_target = keys_if (version_at g t) refl ∙ sym (size_at-is terms p g t all)

  -- its root can be retired
  pub target_retirable : (v : Pins) (us : List Tree) (rs : List (List Tree)) (ds : List Dead) → IsLedger p v (graph_trees p g) us rs ds → CanRetireRoot p (version_or g t).root
  target_retirable v us rs ds l =
      let old = tree_at p (version_or g t).root in
      let others = other_trees p g t in
      let can : IsRetirable p old = All-head (IsRetirable p) old others (ledger_retirable p v (old ∷ others) us rs ds (apart_ledger p v g t us rs ds l)).current in
      subst (CanRetireRoot p) (root_if (version_at g t) refl) can.root

-- in a pool with the same nodes each root means what it meant
pub roots_same : (p q : Nodes) → q.nodes ≡ p.nodes → (root : Option ℕ) → tree_at q root ≡ tree_at p root
roots_same p q nodes root = tree_at_same p q (λ x. ap (λ ns. get_or ns x None) nodes) root

-- a version whose tree is the same is one still
pub still_version : (terms : Terms) (p q : Nodes) (v : GraphVersion) → version_tree q v ≡ version_tree p v → IsVersion terms p v → IsVersion terms q v
still_version terms p q v same is = record {
  root_is = ap root_of same ∙ is.root_is;
  keyed = subst (IsKeyed terms) (sym same) is.keyed;
  counted = subst (λ t. v.triples ≡ length (keys t)) (sym same) is.counted;
}

-- an empty graph has a version
pub empty_is : (terms : Terms) (p : Nodes) → IsVersion terms p empty_version
empty_is terms p = record { root_is = refl; keyed = record { balanced = tt; rising = tt; given = tt }; counted = refl }

-- what the end of a commit makes of the books, where this was the root of a graph
pub record EndsTree (old new : Books) (root : Option ℕ) : Type 0 where
  pub base : string_bytes new.base ≡ string_bytes old.base
  pub limits : new.limits ≡ old.limits
  pub request : new.request ≡ old.request
  pub dict : new.dict ≡ old.dict
  pub commit : new.versions ≡ at_commit old.versions (old.versions.commit + 1)
  pub nodes : new.pool.nodes ≡ old.pool.nodes
  pub aside : aside_count new.pool ≡ aside_count old.pool
  pub ledgers : HandsOverAll old.versions new.versions old.pool new.pool root

-- it makes this of them, beside any records and numbers of last writes
pub tree_ended : (b : Books) (t : Target) (old : GraphVersion) (q : Nodes) (w : Pins) (c : Recorded) (write delete : ℕ) → old ≡ version_or (graphs_of b) t → w ≡ at_commit b.versions (b.versions.commit + 1) → q.nodes ≡ b.pool.nodes → aside_count q ≡ aside_count b.pool
    → HandsOverAll b.versions w b.pool q old.root → EndsTree b (record b { pool = q; versions = w; records = c; default_write = write; last_delete = delete }) (version_or (graphs_of b) t).root
tree_ended b t old q w c write delete is commit nodes aside ledgers = record {
  base = refl;
  limits = refl;
  request = refl;
  dict = refl;
  commit = commit;
  nodes = nodes;
  aside = aside;
  ledgers = subst (λ (v : GraphVersion). HandsOverAll b.versions w b.pool q v.root) is ledgers;
}

-- what is kept of the books by it
kept_books : (old new : Books) (root : Option ℕ) → EndsTree old new root → KeepsBooks old new
kept_books old new root e = record {
  base = e.base;
  limits = e.limits;
  request = e.request;
  commit = ap (λ (v : Pins). v.commit) e.commit;
  pins = ap (λ (v : Pins). v.seats) e.commit;
  dict = e.dict;
  nodes = e.nodes;
}

-- the records are as the last commit left them, there may be as many as before, and that of the default graph is of the last write on it
pub record IsLast (b : Books) : Type 0 where
  pub latest : b.records.latest ≡ b.versions.commit
  pub numbers : b.records.limit ≡ last_node + 1
  pub written : WasWritten b.records b.default_write

-- The books before a commit, and after it, where the graphs are g.
module _ (old new : Books) (t : Target) (e : EndsTree old new (version_or (graphs_of old) t).root) (sound : IsSound old) (number : old.versions.commit < last_number) (g : GraphVersions) (written : graphs_of new ≡ g)
    (latest : IsLast new) where
  others_same : AreSameIn old.pool new.pool (other_versions (graphs_of old) t)
  others_same = λ k d h. roots_same old.pool new.pool e.nodes (get_or (other_versions (graphs_of old) t) k d).root

  dataset_now : dataset_of new ≡ dataset_at old.dict.terms new.pool g
  dataset_now = ap (λ d. dataset_at d.terms new.pool (graphs_of new)) e.dict ∙ ap (dataset_at old.dict.terms new.pool) written

  sound_now : All (IsVersion old.dict.terms new.pool) (all_versions g) → IsSound new
  sound_now all = record {
    versions = subst (λ d. All (IsVersion d.terms new.pool) (all_versions (graphs_of new))) (sym e.dict) (subst (λ h. All (IsVersion old.dict.terms new.pool) (all_versions h)) (sym written) all);
    none_aside = e.aside ∙ sound.none_aside;
    commit = omega (arith, ap (λ (v : Pins). v.commit) e.commit, number);
    latest = latest.latest;
    numbers = latest.numbers;
    base = subst (λ x. is_base x ≡ true) (sym e.base) sound.base;
    written = latest.written;
  }

  -- the tree of the upload is that of a graph now
  ends_now : (tree : Tree) → AreSameTrees (tree ∷ other_trees old.pool (graphs_of old) t) (graph_trees new.pool g) → (us : List Tree) (rs : List (List Tree)) → HasLedger old (tree ∷ us) rs → EndsOneVersion old new (size_at (dataset_of old) t) (graph_births old t) us rs
  ends_now tree trees us rs l =
      let p = old.pool in
      let q = new.pool in
      let root = (version_or (graphs_of old) t).root in
      let others = other_trees p (graphs_of old) t in
      let h : HandsOver old.versions new.versions p q (tree_at p root) tree others us rs = e.ledgers tree others us rs (apart_ledger p old.versions (graphs_of old) t (tree ∷ us) rs (dead_at p) l) in
      record {
        ledger = subst (λ h. IsLedger q new.versions (graph_trees q h) us rs (dead_at q)) (sym written)
            (reorder_ledger q new.versions (tree ∷ others) (graph_trees q g) us us rs (dead_at q) (dead_at q) trees (same_trees us) (same_dead (dead_at q)) h.ledger);
        waste = subst (λ n. Joins (EndsAt (old.versions.commit + 1)) n (waste_at p) (waste_at q)) (keys_of_target old.dict.terms p (graphs_of old) t sound.versions) h.waste;
        leave = subst (λ x. Leave old.versions.commit (tree_births x) (waste_at p) (waste_at q)) (tree_of_target p (graphs_of old) t)
            (put_births p q old.versions new.versions (length (keys (tree_at p root))) (tree_at p root) tree others us rs rs (dead_at p) (dead_at q)
            (apart_ledger p old.versions (graphs_of old) t (tree ∷ us) rs (dead_at p) l) h.ledger (λ x. ap (λ ns. get_or ns x None) e.nodes) h.waste);
      }

-- the target has the version, and no upload has its tree
record Sets (old new : Books) (t : Target) (u : GraphVersion) : Type 0 where
  pub dataset : dataset_of new ≡ with_graph (dataset_of old) t (graph_of_root old.dict.terms old.pool u.root)
  pub kept : KeepsBooks old new
  pub sound : IsSound new
  pub ledgers : (us : List Tree) (rs : List (List Tree)) → HasLedger old (tree_at old.pool u.root ∷ us) rs → EndsOneVersion old new (size_at (dataset_of old) t) (graph_births old t) us rs
  pub births : SetsBirths old new t (tree_births (tree_at old.pool u.root))

version_set : (old new : Books) (t : Target) (u : GraphVersion) → EndsTree old new (version_or (graphs_of old) t).root → graphs_of new ≡ with_version (graphs_of old) t u → IsLast new
    → IsSound old → IsVersion old.dict.terms old.pool u → old.versions.commit < last_number → Sets old new t u
version_set old new t u e graphs latest sound is number =
    let terms = old.dict.terms in
    let p = old.pool in
    let q = new.pool in
    let g = graphs_of old in
    let h = with_version g t u in
    let tree : version_tree q u ≡ version_tree p u = roots_same p q e.nodes u.root in
    let now : IsVersion terms q u = still_version terms p q u tree is in
    let sets : SetsOne terms terms p q g t u = one_is_set terms terms (keep_same terms) p q g t u sound.versions (others_same old new t e sound number h graphs latest) now in
    let graph : version_graph terms q u ≡ graph_of_root terms p u.root = ap (tree_graph terms) tree in
    record {
      dataset = dataset_now old new t e sound number h graphs latest ∙ sets.dataset ∙ ap (with_graph (dataset_at terms p g) t) graph;
      kept = kept_books old new (version_or g t).root e;
      sound = sound_now old new t e sound number h graphs latest sets.versions;
      ledgers = ends_now old new t e sound number h graphs latest (tree_at p u.root) (subst (λ x. AreSameTrees (x ∷ other_trees p g t) (graph_trees q h)) tree sets.trees);
      births = subst (λ x. SetsBirths old new t (tree_births x)) tree (set_bears old new t u graphs (others_same old new t e sound number h graphs latest));
    }

-- the target has the upload's version, and the open record of number n is that of it
pub put_made : (old new : Books) (n : ℕ) (t : Target) (u : GraphVersion) (commit : ℕ) → EndsTree old new (version_or (graphs_of old) t).root → MakesCurrent old.records new.records n t u commit → commit ≡ new.versions.commit → new.default_write ≡ by_target t commit old.default_write → new.last_delete ≡ old.last_delete → IsOpened old n
    → IsSound old → IsVersion old.dict.terms old.pool u → old.versions.commit < last_number → Puts old new n t u
put_made old new n t u commit e puts last write delete was sound is number =
    let sets = version_set old new t u e puts.now (record { latest = puts.latest ∙ last; numbers = puts.limit ∙ sound.numbers; written = put_written old new commit t u puts.births write sound.written }) sound is number in
    let next : commit ≡ old.versions.commit + 1 = last ∙ ap (λ (v : Pins). v.commit) e.commit in
    record {
      dataset = sets.dataset;
      last_writes = put_writes old new commit t u puts.births write delete ∙ ap (λ k. with_write (last_writes_of old) k t) next;
      kept = sets.kept;
      sound = sets.sound;
      ledgers = sets.ledgers;
      births = sets.births;
      lets_go = put_lets_go old new n t u commit puts;
      same = all_put old new n t u commit (omega (arith, next)) was puts;
      counts = puts.counts;
      waste = commit_wastes old new n t u (graph_of_root old.dict.terms old.pool u.root) commit next puts sound sets.sound sets.dataset;
    }

-- the ledger of a Delete: a leaf is no upload
leaf_ends : (old new : Books) (size : ℕ) (births : List ℕ) → ((us : List Tree) (rs : List (List Tree)) → HasLedger old (leaf ∷ us) rs → EndsOneVersion old new size births us rs) → (us : List Tree) (rs : List (List Tree)) → HasLedger old us rs → EndsOneVersion old new size births us rs
leaf_ends old new size births ends us rs l = ends us rs ((leaf_upload old.pool old.versions (graph_trees old.pool (graphs_of old)) us rs (dead_at old.pool)).0 l)

-- The version of the target's graph ended.
module _ (old new : Books) (latest : IsLast new) (same : SameOpened old new) (stays : AllSame old new) (counts : KeepsCounts old.records.records new.records.records) (sound : IsSound old) (number : old.versions.commit < last_number) where
  -- what it makes of the numbers of last writes
  abbrev Writes : Target → Type 0
  Writes t = last_writes_of new ≡ with_delete (last_writes_of old) (old.versions.commit + 1) t

  -- and of the waste of records
  abbrev Wastes : Target → Type 0
  Wastes t = DeleteRecords (totals_of old) t true (waste_in old.records.records) (waste_in new.records.records)

  -- the default graph is empty
  emptied : SetsBirths old new Default [] → Writes Default → Wastes Default → EndsTree old new (version_or (graphs_of old) Default).root → graphs_of new ≡ with_version (graphs_of old) Default empty_version → Removes old new Default
  emptied births writes wastes e written =
      let terms = old.dict.terms in
      let none : graph_of_root terms old.pool None ≡ empty_graph = refl in
      let sets = version_set old new Default empty_version e written latest sound (empty_is terms old.pool) number in
      record {
        dataset = sets.dataset ∙ ap (with_graph (dataset_of old) Default) none;
        last_writes = writes;
        kept = sets.kept;
        sound = sets.sound;
        ledgers = leaf_ends old new (size_at (dataset_of old) Default) (graph_births old Default) sets.ledgers;
        births = births;
        same_opened = same;
        same = stays;
        counts = counts;
        waste = wastes;
      }

  -- a name is gone
  taken_out : (n : List ℕ) → SetsBirths old new (Named n) [] → Writes (Named n) → Wastes (Named n) → EndsTree old new (version_or (graphs_of old) (Named n)).root → graphs_of new ≡ without_name (graphs_of old) n → Removes old new (Named n)
  taken_out n births writes wastes e graphs =
      let terms = old.dict.terms in
      let p = old.pool in
      let q = new.pool in
      let g = graphs_of old in
      let t = Named n in
      let h = without_name g n in
      let takes = name_is_taken terms p q g n sound.versions (others_same old new t e sound number h graphs latest) in
      record {
        dataset = dataset_now old new t e sound number h graphs latest ∙ takes.dataset;
        last_writes = writes;
        kept = kept_books old new (version_or g t).root e;
        sound = sound_now old new t e sound number h graphs latest takes.versions;
        ledgers = leaf_ends old new (size_at (dataset_of old) t) (graph_births old t) (ends_now old new t e sound number h graphs latest leaf takes.trees);
        births = births;
        same_opened = same;
        same = stays;
        counts = counts;
        waste = wastes;
      }

  pub removed : (t : Target) → Writes t → Wastes t → EndsTree old new (version_or (graphs_of old) t).root → graphs_of new ≡ without_version (graphs_of old) t → Removes old new t
  removed Default writes wastes e graphs = emptied (gone_bears old new Default graphs (roots_same old.pool new.pool e.nodes)) writes wastes e graphs
  removed (Named n) writes wastes e graphs = taken_out n (gone_bears old new (Named n) graphs (roots_same old.pool new.pool e.nodes)) writes wastes e graphs
