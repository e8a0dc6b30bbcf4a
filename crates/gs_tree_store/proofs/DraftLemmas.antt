-- Drafts: what copies make of a version, and what the books are once a draft is kept.
use Rattle.std.proofs.Common.{◌≡◌, ◌+◌, ◌*◌, ◌^◌, ◌<◌, ◌≤◌, ℕ, List, ◌∷◌, ◌++◌, map, length, Option, Some, None, option_map, unwrap_or, refl, sym, ap, subst, ◌∙◌, arith}
use Rattle.std.specs.List.{All}
use Rattle.gs_model.specs.Graphs.{Graph, graph_of, triples_of, with_triples}
use Rattle.gs_model.specs.Limits.{last_number}
use Rattle.gs_model.proofs.GraphLemmas.{graph_of-triples_of, triples_of-empty}
use Rattle.gs_term.specs.declared.names.Target.{Target}
use Rattle.std.specs.declared.cmp.Ordering.{Ordering}
use Rattle.gs_event.specs.declared.updates.Op.{Op}
use Rattle.gs_event.specs.Updates.{updated, inserted_by, removed_by}
use Rattle.gs_event.specs.Datasets.{with_graph, graph_at as graph_of_target}
use Rattle.gs_event.specs.Operations.{united}
use Rattle.gs_event.specs.Conditions.{with_write}
use Rattle.gs_event.specs.Waste.{Lifetime}
use Rattle.gs_event.specs.Born.{Renews}
use Rattle.gs_event.specs.Wasting.{Joins, EndsAt}
use Rattle.gs_dict.specs.Numbering.{Numbered, IsDistinct}
use Rattle.gs_pool.specs.Pool.{Nodes, aside_count, IsParted}
use Rattle.gs_pool.specs.declared.nodes.Key.{Key}
use Rattle.gs_tree.specs.Keys.{merge_keys}
use Rattle.gs_tree.proofs.Merging.{length_merge}
use Rattle.gs_tree.specs.Tree.{Tree, occurrences, tree_at}
use Rattle.gs_tree.specs.Steps.{Step, BornAt}
use Rattle.gs_tree.specs.Reading.{keys_at}
use Rattle.gs_keys.specs.Texts.{Terms, triple_at, key_cmp, key_total}
use Rattle.gs_keys.specs.Roots.{graph_of_root}
use Rattle.gs_changes.specs.Changes.{ChangesAt}
use Rattle.gs_changes.proofs.AddLemmas.{few_keys}
use Rattle.gs_changes.proofs.ChangeLemmas.{at_most, draft}
use Rattle.gs_staging.specs.Keys.{Grows, IsRunOfTriples}
use Rattle.gs_staging.specs.Staging.{IsStaged}
use Rattle.gs_staging.proofs.KeyLemmas.{still_grows}
use Rattle.gs_staging.proofs.StageLemmas.{with_run}
use Rattle.gs_patch.specs.declared.patches.Draft.{Draft}
use Rattle.gs_patch.specs.Patches.{Patches}
use Rattle.gs_catalogue.specs.declared.versions.GraphVersion.{GraphVersion}
use Rattle.gs_catalogue.specs.Catalogues.{empty_version, version_at, with_version}
use Rattle.gs_records.specs.Records.{Recorded}
use Rattle.gs_records.specs.Calls.{MakesCurrent}
use Rattle.gs_records.specs.Graphs.{current}
use Rattle.gs_versions.specs.Pins.{Pins, at_commit}
use Rattle.gs_ledger.specs.Entries.{tree_births}
use Rattle.gs_ledger.specs.Marks.{dead_at, waste_at}
use Rattle.gs_ledger.proofs.Births.{copy_births}
use Rattle.gs_ledger.specs.Ledger.{IsTreeOf, IsLedger}
use Rattle.gs_ledger.specs.Changes.{AreSameTrees}
use Rattle.gs_ledger.proofs.Orders.{reorder_ledger}
use Rattle.gs_ledger.proofs.Marked.{same_trees}
use Rattle.gs_commit.specs.Commits.{KeepsDraft, KeepsDraftAll}
use Rattle.gs_datasets.specs.Standing.{version_graph, dataset_at, all_versions, other_versions, version_tree, graph_trees, other_trees, tree_graph, IsVersion, AreSameIn}
use Rattle.gs_datasets.specs.Writes.{SetsOne}
use Rattle.gs_datasets.proofs.Keeping.{others_stay_beside}
use Rattle.gs_datasets.proofs.Sizes.{graph_at-is}
use Rattle.gs_datasets.proofs.Writing.{one_is_set}
use Rattle.gs_tree_store.specs.declared.books.Books.{Books}
use Rattle.gs_tree_store.specs.LastWrites.{last_writes_of, WasWritten, by_target}
use Rattle.gs_tree_store.specs.Books.{graphs_of, dataset_of, IsSound, HasLedger}
use Rattle.gs_tree_store.specs.Births.{graph_births}
use Rattle.gs_tree_store.specs.Writes.{SetsBirths}
use Rattle.gs_tree_store.specs.Drafts.{CanDraft, IsRun, Drafts}
use Rattle.gs_tree_store.proofs.WrittenLemmas.{put_writes, put_written}
use Rattle.gs_tree_store.proofs.BornLemmas.{born_nodes, born_then, set_bears}
use Rattle.gs_tree_store.proofs.CommitLemmas.{version_or, tree_of_target, same_dead, apart_ledger, roots_same, still_version}

-- a change of the tree of a version that can have a draft is one
pub drafted : (birth : ℕ) (terms grown : Terms) (p q : Nodes) (old v : GraphVersion) (g : Graph) (added removed most : ℕ) → CanDraft birth terms p old → IsParted p → ChangesAt (key_cmp grown) birth p q old.root v.root added removed → IsStaged grown q v.root
    → v.triples + removed ≡ old.triples + added → graph_of_root grown q v.root ≡ g → 256 * added + 193 * removed ≤ most → Drafts birth grown p q old v g most
drafted birth terms grown p q old v g added removed most can parted c staged count graph few =
    let t = tree_at p old.root in
    let new = tree_at q v.root in
    let births = c.births can.earlier.descends (at_most birth t can.earlier.before) in
    record {
      began = record { earlier = can.earlier; none_aside = can.none_aside; parted = parted };
      step = c.step;
      tree = record { stands = c.set.stands; descends = births.0; born = births.1 };
      draft = draft (key_cmp grown) birth p q v.root added removed t new can.earlier c;
      version = record {
        root_is = sym c.set.root_is;
        keyed = record { balanced = c.set.balanced; rising = c.set.rising; given = staged.given };
        counted = omega (arith, count, c.counted, can.counted);
      };
      graph = graph;
      few = omega (arith, few, c.exact, c.few, can.none_aside);
    }

united_if : (terms : Terms) (p : Nodes) (o : Option GraphVersion) (g : Graph) → united (option_map (version_graph terms p) o) g ≡ with_triples (graph_of_root terms p (unwrap_or o empty_version).root) (triples_of g)
united_if terms p None g = sym (graph_of-triples_of g) ∙ sym (ap (λ xs. graph_of (xs ++ triples_of g)) triples_of-empty)
united_if terms p (Some v) g = refl

-- the target's graph with that of an upload is the union of both
pub united_target : (b : Books) (t : Target) (g : Graph) → with_triples (graph_of_root b.dict.terms b.pool (version_or (graphs_of b) t).root) (triples_of g) ≡ united (graph_of_target (dataset_of b) t) g
united_target b t g =
    sym (ap (λ o. united o g) (graph_at-is b.dict.terms b.pool (graphs_of b) t) ∙ united_if b.dict.terms b.pool (version_at (graphs_of b) t) g)

-- the ledger goes on, so many nodes at most join the waste, and the births of the target's graph are those that it had, or that of the next
-- commit
pub record KeptEnds (old new : Books) (t : Target) (births : List ℕ) (most : ℕ) (us : List Tree) (rs : List (List Tree)) : Type 0 where
  pub ledger : HasLedger new us rs
  pub waste : Joins (EndsAt (old.versions.commit + 1)) most (waste_at old.pool) (waste_at new.pool)
  pub renews : Renews old.versions.commit (graph_births old t) births (waste_at old.pool) (waste_at new.pool)

-- the books once a draft is kept
abbrev pub with_draft : Books → Numbered → Nodes → Pins → Recorded → ℕ → Books
with_draft b d r w c write = record b { dict = d; pool = r; versions = w; records = c; default_write = write }

fewer : (commit n most : ℕ) (old new : List Lifetime) → n ≤ most → Joins (EndsAt commit) n old new → Joins (EndsAt commit) most old new
fewer commit n most old new few j = record { more = j.more; few = omega (arith, few, j.few); same = j.same; ended = j.ended }

-- The last commit of the records has this number, and there may be as many as before. The commit of the default graph's record is the last
-- write on it.
pub record IsNext (x c : Recorded) (write birth : ℕ) : Type 0 where
  pub latest : c.latest ≡ birth
  pub limit : c.limit ≡ x.limit
  pub written : WasWritten c write

-- The records have the draft v as the version of the target's graph, whose record had number o.
module _ (b : Books) (d : Numbered) (r : Nodes) (w : Pins) (c : Recorded) (o : ℕ) (t : Target) (v : GraphVersion) (birth : ℕ) (puts : MakesCurrent b.records c o t v birth) where
  abbrev kept_books : Books
  kept_books = with_draft b d r w c (by_target t birth b.default_write)

  pub put_next : WasWritten b.records b.default_write → IsNext b.records c (by_target t birth b.default_write) birth
  put_next was = record { latest = puts.latest; limit = puts.limit; written = put_written b kept_books birth t v puts.births refl was }

  pub put_last : last_writes_of kept_books ≡ with_write (last_writes_of b) birth t
  put_last = put_writes b kept_books birth t v puts.births refl refl

-- The draft v of the target's graph is kept.
module _ (b : Books) (d : Numbered) (q r : Nodes) (w : Pins) (c : Recorded) (write : ℕ) (t : Target) (v : GraphVersion) (g : Graph) (birth most : ℕ)
    (born : birth ≡ b.versions.commit + 1) (grows : Grows b.dict d) (made : Drafts birth d.terms b.pool q (version_or (graphs_of b) t) v g most)
    (keeps : KeepsDraftAll b.versions w q r) (commit : w ≡ at_commit b.versions (b.versions.commit + 1)) (nodes : r.nodes ≡ q.nodes) (none : aside_count r ≡ 0)
    (written : current c.records ≡ with_version (graphs_of b) t v) (latest : IsNext b.records c write birth) (number : b.versions.commit < last_number) (sound : IsSound b) where
  ends : (us : List Tree) (rs : List (List Tree)) → HasLedger b us rs → KeepsDraft b.versions w b.pool q r (tree_at q v.root) (other_trees b.pool (graphs_of b) t) us rs
  ends us rs l =
      let old = tree_at b.pool (version_or (graphs_of b) t).root in
      let new = tree_at q v.root in
      keeps b.pool old new (other_trees b.pool (graphs_of b) t) us rs sound.none_aside
      (apart_ledger b.pool b.versions (graphs_of b) t us rs (dead_at b.pool) l)
      (subst (λ n. Step n n b.pool q (occurrences old) (occurrences new)) born made.step) (subst (λ n. IsTreeOf q n new) born made.tree)

  module _ (us₀ : List Tree) (rs₀ : List (List Tree)) (l₀ : HasLedger b us₀ rs₀) where
    same_others : AreSameIn b.pool r (other_versions (graphs_of b) t)
    same_others = others_stay_beside b.dict.terms b.pool r (graphs_of b) t w (tree_at q v.root) us₀ rs₀ (dead_at r) sound.versions (ends us₀ rs₀ l₀).ledger

    same_draft : version_tree r v ≡ version_tree q v
    same_draft = roots_same q r nodes v.root

    sets : SetsOne b.dict.terms d.terms b.pool r (graphs_of b) t v
    sets = one_is_set b.dict.terms d.terms grows.terms b.pool r (graphs_of b) t v sound.versions same_others (still_version d.terms q r v same_draft made.version)

    pub kept_dataset : dataset_of (with_draft b d r w c write) ≡ with_graph (dataset_of b) t g
    kept_dataset =
        ap (dataset_at d.terms r) written
        ∙ sets.dataset
        ∙ ap (λ u. with_graph (dataset_of b) t (tree_graph d.terms u)) same_draft
        ∙ ap (with_graph (dataset_of b) t) made.graph

    pub kept_sound : IsSound (with_draft b d r w c write)
    kept_sound = record {
      versions = subst (λ g. All (IsVersion d.terms r) (all_versions g)) (sym written) sets.versions;
      none_aside = none;
      commit = omega (arith, ap (λ (x : Pins). x.commit) commit, number);
      latest = latest.latest ∙ born ∙ sym (ap (λ (x : Pins). x.commit) commit);
      numbers = latest.limit ∙ sound.numbers;
      base = sound.base;
      written = latest.written;
    }

    renewed : (us : List Tree) (rs : List (List Tree)) → HasLedger b us rs → Renews b.versions.commit (graph_births b t) (tree_births (version_tree r v)) (waste_at b.pool) (waste_at r)
    renewed us rs l =
        let p = b.pool in
        let next = b.versions.commit + 1 in
        let old = tree_at p (version_or (graphs_of b) t).root in
        let new = tree_at q v.root in
        let others = other_trees p (graphs_of b) t in
        let h = ends us rs l in
        let made_next : BornAt next p r = born_then next p q r (subst (λ n. BornAt n p q) born made.step.born) (born_nodes next q r nodes) in
        let now : Renews b.versions.commit (tree_births old) (tree_births new) (waste_at p) (waste_at r) =
        copy_births p r b.versions w (aside_count q) old new others us rs rs (dead_at p) (dead_at r) (apart_ledger p b.versions (graphs_of b) t us rs (dead_at p) l) h.ledger made_next h.waste in
        subst (λ x. Renews b.versions.commit (tree_births x) (tree_births (version_tree r v)) (waste_at p) (waste_at r)) (tree_of_target p (graphs_of b) t)
        (subst (λ x. Renews b.versions.commit (tree_births old) (tree_births x) (waste_at p) (waste_at r)) (sym same_draft) now)

    pub kept_ends : (us : List Tree) (rs : List (List Tree)) → HasLedger b us rs → KeptEnds b (with_draft b d r w c write) t (tree_births (version_tree r v)) most us rs
    kept_ends us rs l =
        let h = ends us rs l in
        let trees : AreSameTrees (version_tree q v ∷ other_trees b.pool (graphs_of b) t) (graph_trees r (with_version (graphs_of b) t v)) = subst (λ u. AreSameTrees (u ∷ other_trees b.pool (graphs_of b) t) (graph_trees r (with_version (graphs_of b) t v))) same_draft sets.trees in
        record {
          ledger = subst (λ g. IsLedger r w (graph_trees r g) us rs (dead_at r)) (sym written)
              (reorder_ledger r w (version_tree q v ∷ other_trees b.pool (graphs_of b) t) (graph_trees r (with_version (graphs_of b) t v)) us us rs (dead_at r) (dead_at r) trees (same_trees us) (same_dead (dead_at r)) h.ledger);
          waste = fewer (b.versions.commit + 1) (aside_count q) most (waste_at b.pool) (waste_at r) made.few h.waste;
          renews = renewed us rs l;
        }

    -- the other graphs have the births that they had
    pub kept_births : SetsBirths b (with_draft b d r w c write) t (tree_births (version_tree r v))
    kept_births = set_bears b (with_draft b d r w c write) t v written same_others

-- keys in a version
pub united_made : (birth : ℕ) (d : Numbered) (p q : Nodes) (old : GraphVersion) (ks : List Key) (root : Option ℕ) (added : ℕ) → IsDistinct d.terms → CanDraft birth d.terms p old → IsParted p → IsRun d.terms ks
    → ChangesAt (key_cmp d.terms) birth p q old.root root added 0 → keys_at q root ≡ merge_keys (key_cmp d.terms) ks (keys_at p old.root)
    → Drafts birth d.terms p q old (record { root = root; triples = old.triples + added }) (with_triples (graph_of_root d.terms p old.root) (map (triple_at d.terms) ks)) (259 * length ks)
united_made birth d p q old ks root added distinct can parted is c keys_are =
    let terms = d.terms in
    let ts = map (triple_at terms) ks in
    let run : IsRunOfTriples terms ts ks = record { rising = is.rising; given = is.given; graph = refl } in
    let made = with_run d d p q old.root root ts ks (still_grows d d refl) distinct can.staged run c.set keys_are in
    let few : length (keys_at q root) ≤ length (keys_at p old.root) + length ks = subst (λ xs. length xs ≤ length (keys_at p old.root) + length ks) (sym keys_are) (length_merge (key_cmp terms) (key_total terms) ks (keys_at p old.root)) in
    drafted birth terms terms p q old (record { root = root; triples = old.triples + added }) (with_triples (graph_of_root terms p old.root) ts) added 0 (259 * length ks) can parted c made.0 (omega arith) made.1
    (omega (arith, few, c.counted))

-- the operations of an update on a version
pub patched_made : (birth : ℕ) (terms grown : Terms) (p q : Nodes) (old : GraphVersion) (ops : List Op) (x : Draft) (n : ℕ) → CanDraft birth terms p old → IsParted p → Patches birth terms grown p q old.root ops x → n + x.removed ≡ old.triples + x.added
    → Drafts birth grown p q old (record { root = x.root; triples = n }) (updated (graph_of_root terms p old.root) ops) (259 * inserted_by (graph_of_root terms p old.root) ops + 261 * removed_by (graph_of_root terms p old.root) ops)
patched_made birth terms grown p q old ops x n can parted is count =
    drafted birth terms grown p q old (record { root = x.root; triples = n }) (updated (graph_of_root terms p old.root) ops) x.added x.removed (259 * inserted_by (graph_of_root terms p old.root) ops + 261 * removed_by (graph_of_root terms p old.root) ops) can parted is.changes is.staged count is.graph
    (omega (arith, is.added, is.removed))

-- a draft has no more triples than there are numbers of nodes
pub few_in_draft : (cmp : Key → Key → Ordering) (birth : ℕ) (p q : Nodes) (old root : Option ℕ) (added removed n : ℕ) → n ≡ length (keys_at p old) → ChangesAt cmp birth p q old root added removed → length q.nodes < 2 ^ 32
    → (removed ≤ n + added) × (n + added < 2 ^ 32 + removed)
few_in_draft cmp birth p q old root added removed n counted c small =
    let few = few_keys cmp q root c.set small in
    (omega (arith, c.counted, counted), omega (arith, few, c.counted, counted))
