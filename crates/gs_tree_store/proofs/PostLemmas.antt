-- What the commit of a POST makes of the books and of the seat.
use Rattle.std.proofs.Common.{◌≡◌, ◌≤◌, ◌+◌, ◌*◌, ℕ, true, false, List, [], ◌∷◌, map, length, Option, None, refl, sym, ap, subst, ◌∙◌, arith, true≢false}
use Rattle.std.proofs.lemmas.List.{set-get_or}
use Rattle.gs_model.specs.Graphs.{Graph, graph_of, size_of, triples_of, with_triples}
use Rattle.gs_model.specs.declared.refusals.Refusal.{Refusal}
use Rattle.gs_model.specs.declared.refusals.Refusal.TheVariants.{LastNumber as NoNumber, NoMemory}
use Rattle.gs_term.specs.declared.names.Target.{Target}
use Rattle.gs_event.specs.declared.events.UploadKind.TheVariants.{Post}
use Rattle.gs_event.specs.declared.events.Action.TheVariants.{Commit}
use Rattle.gs_event.specs.declared.answers.Answer.{Answer}
use Rattle.gs_event.specs.declared.answers.Answer.TheVariants.{Refused, Status}
use Rattle.gs_event.specs.declared.verdicts.Holdings.{Holdings}
use Rattle.gs_event.specs.declared.verdicts.Place.{Place}
use Rattle.gs_event.specs.declared.verdicts.Change.TheVariants.{Stores}
use Rattle.gs_event.specs.declared.verdicts.Verdict.{Verdict}
use Rattle.gs_event.specs.declared.verdicts.Verdict.TheVariants.{Full, LastNumber, Granted}
use Rattle.gs_event.specs.Datasets.{with_graph, graph_at as graph_of_target}
use Rattle.gs_event.specs.Operations.{Posts, after, united}
use Rattle.gs_event.specs.Conditions.{Asked, asked_since, is_late, with_write}
use Rattle.gs_event.specs.Phases as phase
use Rattle.gs_event.specs.Views.{state_of, FitsSeat}
use Rattle.gs_event.specs.Verdicts.{verdict_of, holdings_of, place_in, DecidesStore}
use Rattle.gs_event.proofs.VerdictLemmas.{store_may}
use Rattle.gs_event.specs.Born.{Renews, GraphBears, UploadBears}
use Rattle.gs_event.specs.Wasting.{IsUnreached, EndsAt, Joins, UploadNodes}
use Rattle.gs_pool.specs.declared.nodes.Key.{Key}
use Rattle.gs_pool.specs.Pool.{Nodes, in_use, aside_count, room}
use Rattle.gs_tree.specs.Tree.{Tree, leaf, keys, occurrences, BirthAtMost, tree_at}
use Rattle.gs_tree.specs.Keys.{AllKeys, IsRising}
use Rattle.gs_tree.specs.Reading.{keys_at}
use Rattle.gs_tree.specs.Steps.{Step, SameTotal, BornAt}
use Rattle.gs_tree.proofs.TreeLemmas.{Step-then}
use Rattle.gs_keys.specs.Texts.{triple_at, key_cmp, IsGiven}
use Rattle.gs_keys.specs.Roots.{graph_of_root}
use Rattle.gs_keys.proofs.KeyLemmas.{triples_of_keys}
use Rattle.gs_staging.proofs.KeyLemmas.{still_grows}
use Rattle.gs_changes.specs.Endings.{UndoesAll, Restores}
use Rattle.gs_catalogue.specs.declared.versions.GraphVersion.{GraphVersion}
use Rattle.gs_catalogue.specs.Catalogues.{with_version}
use Rattle.gs_records.specs.Records.{Recorded}
use Rattle.gs_records.specs.Graphs.{current}
use Rattle.gs_versions.specs.Pins.{Pins, at_commit}
use Rattle.gs_ledger.specs.Entries.{tree_births}
use Rattle.gs_ledger.specs.Marks.{waste_at}
use Rattle.gs_datasets.specs.Standing.{version_tree}
use Rattle.gs_ledger.specs.Ledger.{IsTreeOf}
use Rattle.gs_commit.specs.Commits.{KeepsDraftAll}
use Rattle.gs_tree_store.specs.declared.books.Books.{Books}
use Rattle.gs_tree_store.specs.declared.books.Seat.{Seat}
use Rattle.gs_tree_store.specs.declared.books.Seat.TheVariants.{Idle, Writing}
use Rattle.gs_tree_store.specs.LastWrites.{last_writes_of, late_write_of}
use Rattle.gs_tree_store.specs.Books.{graphs_of, books_setting, dataset_of, totals_of, seat_view_by, HasLedger, IsReady}
use Rattle.gs_tree_store.specs.Births.{graph_births}
use Rattle.gs_tree_store.specs.Drafts.{CanDraft, IsRun, Drafts}
use Rattle.gs_tree_store.specs.Uploads.{TakesKeys, MakesAgain}
use Rattle.gs_tree_store.specs.Verdicts.{HasCounts}
use Rattle.gs_tree_store.specs.Actions.{bearing_by, Acts, IsReadyAny}
use Rattle.gs_tree_store.proofs.AlikeLemmas.{SameNow, with_records, acts_alike}
use Rattle.gs_tree_store.proofs.BornLemmas.{equal_births, trees_bear}
use Rattle.gs_tree_store.proofs.ConditionLemmas.{fits_so, totals_so, comes_done, comes_undone, post_done, wants_in_time, no_number, upload_in_time}
use Rattle.gs_tree_store.proofs.CommitLemmas.{version_or}
use Rattle.gs_tree_store.proofs.VerdictLemmas.{size_of_version, is_stored, is_not_stored, would_be_stored}
use Rattle.gs_tree_store.proofs.WriteLemmas.{upload_graph, taken_over}
use Rattle.gs_tree_store.proofs.BeginLemmas.{can_draft}
use Rattle.gs_tree_store.proofs.SeatLemmas.{SameGraphs, same_totals, ledger_stays}
use Rattle.gs_tree_store.proofs.UndoneLemmas.{with_nodes}
use Rattle.gs_tree_store.proofs.UploadLemmas.{no_tree, restored_step, moved_graphs, moved_ledger, moved_waste, moved_births, moved_use}
use Rattle.gs_tree_store.proofs.DraftLemmas.{KeptEnds, IsNext, with_draft, kept_dataset, kept_sound, kept_ends, kept_births, united_target}

-- the target's graph with the upload's triples
abbrev pub posted : Books → Target → GraphVersion → Graph
posted b t v = united (graph_of_target (dataset_of b) t) (upload_graph b v)

-- what becomes of a write of that graph
abbrev pub DecidesPost : Books → Target → GraphVersion → Verdict → Type 0
DecidesPost b t v verdict = DecidesStore (books_setting b) (dataset_of b) b.versions.commit t (posted b t v) verdict

-- The upload's keys are `ks`, and `p1` is the pool without its tree.
module _ (b : Books) (t : Target) (n : ℕ) (u : GraphVersion) (o : ℕ) (since : Option ℕ) (p1 : Nodes) (ks : List Key) (any : IsReadyAny b (Writing (Post t) n u o since)) (early : late_write_of b t since ≡ None) (apart : TakesKeys b.pool p1 u.root ks) where
  abbrev tree : Tree
  tree = tree_at b.pool u.root

  abbrev graph : Graph
  graph = upload_graph b u

  abbrev asked : Asked
  asked = asked_since since (Posts t (upload_graph b u))

  in_time : is_late (state_of (totals_of b)) since (Posts t (upload_graph b u)) ≡ false
  in_time = upload_in_time b t since early

  abbrev mid : Books
  mid = with_nodes b b.dict p1

  abbrev us₀ : List Tree
  us₀ = any.ready.ledger.uploads

  abbrev rs₀ : List (List Tree)
  rs₀ = any.ready.ledger.reads

  l₀ : HasLedger b (tree_at b.pool u.root ∷ us₀) rs₀
  l₀ = any.ready.ledger.ledger.ledger

  none_aside : aside_count p1 ≡ 0
  none_aside = apart.frees.marks.aside ∙ any.ready.sound.none_aside

  mid_graphs : SameGraphs b (with_nodes b b.dict p1)
  mid_graphs = moved_graphs b b.dict p1 0 tree leaf (still_grows b.dict b.dict refl) any.ready.sound (apart.frees.step 0) (no_tree b p1) none_aside us₀ rs₀ l₀

  mid_ledger : (us : List Tree) (rs : List (List Tree)) → HasLedger b (tree_at b.pool u.root ∷ us) rs → HasLedger (with_nodes b b.dict p1) (leaf ∷ us) rs
  mid_ledger = moved_ledger b b.dict p1 0 tree leaf (still_grows b.dict b.dict refl) any.ready.sound (apart.frees.step 0) (no_tree b p1) none_aside us₀ rs₀ l₀

  mid_waste : waste_at p1 ≡ waste_at b.pool
  mid_waste = moved_waste b b.dict p1 0 tree leaf (still_grows b.dict b.dict refl) any.ready.sound (apart.frees.step 0) (no_tree b p1) none_aside us₀ rs₀ l₀

  mid_use : in_use p1 + length ks ≡ in_use b.pool
  mid_use = omega (arith, moved_use b b.dict p1 0 tree leaf (still_grows b.dict b.dict refl) any.ready.sound (apart.frees.step 0) (no_tree b p1) none_aside us₀ rs₀ l₀, ap (λ (xs : List Key). length xs) apart.keys_are)

  -- a draft of the target's graph can be made,
  pub mid_can : (old : GraphVersion) (birth : ℕ) → old ≡ version_or (graphs_of b) t → birth ≡ b.versions.commit + 1 → CanDraft birth b.dict.terms p1 old
  mid_can old birth is born =
      let counts : HasCounts mid = record { sound = mid_graphs.sound; ledger = record { uploads = leaf ∷ us₀; reads = rs₀; ledger = mid_ledger us₀ rs₀ l₀ } } in
      can_draft mid t old birth is born counts

  -- and the keys can go into it
  pub mid_run : IsRun b.dict.terms ks
  mid_run = subst (IsRun b.dict.terms) (sym apart.keys_are) (record { rising = any.ready.known.keyed.rising; given = any.ready.known.keyed.given })

  triples_are : map (triple_at b.dict.terms) ks ≡ triples_of (upload_graph b u)
  triples_are = ap (map (triple_at b.dict.terms)) apart.keys_are ∙ sym (triples_of_keys b.dict.terms (keys_at b.pool u.root) any.ready.known.keyed.rising any.ready.known.keyed.given)

  -- Nothing is left of a draft in the pool r.
  module _ (r : Nodes) (restores : Restores p1 r) where
    gone_step : (birth : ℕ) → Step 0 birth b.pool r (occurrences tree) (λ x. 0)
    gone_step birth = Step-then 0 birth b.pool p1 r (occurrences tree) (λ x. 0) (λ x. 0) (apart.frees.step birth) (restored_step birth p1 r restores)

    -- the keys have room
    pub again_fits : SameTotal p1 r → length ks ≤ room r
    again_fits total = omega (arith, apart.total, total, mid_use, restores.in_use)

    -- beyond the limits: the upload is no more
    post_full : (x : Recorded) (s : ℕ) → SameNow b.records x → DecidesPost b t u Full → IsReady b s (Writing (Post t) n u o since) → Acts b (with_records (with_nodes b b.dict r) x) s (Writing (Post t) n u o since) Idle Commit (Status 507 None b.versions.commit)
    post_full x s now decided ready =
        let not = is_not_stored (books_setting b) (dataset_of b) b.versions.commit (Posts t graph) t (posted b t u) refl refl decided in
        let comes = comes_undone (totals_of b) asked in_time 507 None not.status_is refl refl not.dataset in
        let grows = still_grows b.dict b.dict refl in
        let graphs = moved_graphs b b.dict r 0 tree leaf grows ready.sound (gone_step 0) (no_tree b r) restores.aside us₀ rs₀ l₀ in
        let waste = moved_waste b b.dict r 0 tree leaf grows ready.sound (gone_step 0) (no_tree b r) restores.aside us₀ rs₀ l₀ in
        acts_alike (with_nodes b b.dict r) x now b s (Writing (Post t) n u o since) Commit (Status 507 None b.versions.commit)
        (record {
          fits = fits_so (totals_of b) asked 507 None b.versions.commit (state_of (totals_of b)) comes (λ e. absurd (true≢false (sym e)));
          totals = totals_so b (with_nodes b b.dict r) asked (state_of (totals_of b)) comes.state_is refl refl (λ i. record { dataset = graphs.dataset i; commit = b.versions.commit; last_writes = last_writes_of b });
          seat = refl;
          pins = sym (set-get_or b.versions.seats s None);
          sound = graphs.sound;
          known = tt;
          version = tt;
          grows = grows;
          ledgers = λ us rs l.
              let here = moved_ledger b b.dict r 0 tree leaf grows ready.sound (gone_step 0) (no_tree b r) restores.aside us₀ rs₀ l₀ us rs l.ledger in
              record {
                ledger = ledger_stays (with_nodes b b.dict r) s Idle us rs l.read l.there here;
                waste = subst (Joins IsUnreached (size_of graph) (waste_at b.pool)) (sym waste) (record { more = []; few = omega arith; same = λ f. omega arith; ended = λ k d lt. absurd (omega arith) });
              };
          takes = omega (arith, mid_use, restores.in_use, ap length apart.keys_are, ready.known.counted, size_of_version b.dict.terms b.pool u ready.known);
          born = ((λ x. equal_births (graph_births b x) (graph_births (with_nodes b b.dict r) x) (trees_bear b (with_nodes b b.dict r) refl graphs.trees x)), refl);
        })

    -- refused: the upload is made again, from the same keys
    post_again : (r' : Nodes) (birth s : ℕ) (v : GraphVersion) (why : Refusal) → birth ≡ b.versions.commit + 1 → MakesAgain birth r r' ks v
        → FitsSeat (totals_of b) (seat_view_by b (Writing (Post t) n u o since)) Commit (Refused why) → IsReady b s (Writing (Post t) n u o since)
        → Acts b (with_nodes b b.dict r') s (Writing (Post t) n u o since) (Writing (Post t) n v o since) Commit (Refused why)
    post_again r' birth s v why born puts fits ready =
        let made = puts.built in
        let grows = still_grows b.dict b.dict refl in
        let new = tree_at r' v.root in
        let step : Step 0 birth b.pool r' (occurrences tree) (occurrences new) = Step-then 0 birth b.pool r r' (occurrences tree) (λ x. 0) (occurrences new) (gone_step birth) (made.step 0 (omega arith)) in
        let stands : IsTreeOf r' (b.versions.commit + 1) new = record { stands = made.stands; descends = made.descends; born = subst (λ k. BirthAtMost k new) born made.born } in
        let none : aside_count r' ≡ 0 = made.replaced ∙ restores.aside in
        let graphs = moved_graphs b b.dict r' birth tree new grows ready.sound step stands none us₀ rs₀ l₀ in
        let same : keys new ≡ keys_at b.pool u.root = made.keys_are ∙ apart.keys_are in
        let used = moved_use b b.dict r' birth tree new grows ready.sound step stands none us₀ rs₀ l₀ in
        record {
          fits = fits;
          totals = same_totals b (with_nodes b b.dict r') refl graphs.dataset refl refl refl;
          seat = ap (λ xs. phase.Writing (Post t) n (graph_of (map (triple_at b.dict.terms) xs)) since) same;
          pins = sym (set-get_or b.versions.seats s None);
          sound = graphs.sound;
          known = record {
            root_is = sym made.root;
            keyed = record {
              balanced = made.balanced;
              rising = subst (IsRising (key_cmp b.dict.terms)) (sym same) ready.known.keyed.rising;
              given = subst (AllKeys (IsGiven b.dict.terms)) (sym same) ready.known.keyed.given;
            };
            counted = puts.counted ∙ sym (ap length made.keys_are);
          };
          version = tt;
          grows = grows;
          ledgers = λ us rs l. record {
            ledger = ledger_stays (with_nodes b b.dict r') s (Writing (Post t) n v o since) us rs l.read l.there (moved_ledger b b.dict r' birth tree new grows ready.sound step stands none us₀ rs₀ l₀ us rs l.ledger);
            waste = moved_waste b b.dict r' birth tree new grows ready.sound step stands none us₀ rs₀ l₀;
          };
          takes = omega (arith, used, ap (λ (xs : List Key). length xs) same);
          born = (
            (λ x. equal_births (graph_births b x) (graph_births (with_nodes b b.dict r') x) (trees_bear b (with_nodes b b.dict r') refl graphs.trees x)),
            moved_births b b.dict r' birth tree new grows ready.sound step stands none us₀ rs₀ l₀ (subst (λ k. BornAt k b.pool r') born step.born),
          );
        }

    post_refused : (r' : Nodes) (birth s : ℕ) (v : GraphVersion) (now : Seat) (a : Answer) (why : Refusal) → birth ≡ b.versions.commit + 1 → MakesAgain birth r r' ks v → now ≡ Writing (Post t) n v o since → a ≡ Refused why
        → FitsSeat (totals_of b) (seat_view_by b (Writing (Post t) n u o since)) Commit (Refused why) → IsReady b s (Writing (Post t) n u o since) → Acts b (with_nodes b b.dict r') s (Writing (Post t) n u o since) now Commit a
    post_refused r' birth s v now a why born puts writes is fits ready =
        subst (λ x. Acts b (with_nodes b b.dict r') s (Writing (Post t) n u o since) x Commit a) (sym writes)
        (subst (λ x. Acts b (with_nodes b b.dict r') s (Writing (Post t) n u o since) (Writing (Post t) n v o since) Commit x) (sym is) (post_again r' birth s v why born puts fits ready))

    -- want of memory
    pub post_unmade : (r' : Nodes) (birth s : ℕ) (v : GraphVersion) (now : Seat) (a : Answer) → birth ≡ b.versions.commit + 1 → MakesAgain birth r r' ks v → now ≡ Writing (Post t) n v o since → a ≡ Refused NoMemory → IsReady b s (Writing (Post t) n u o since) → Acts b (with_nodes b b.dict r') s (Writing (Post t) n u o since) now Commit a
    post_unmade r' birth s v now a born puts writes is = post_refused r' birth s v now a NoMemory born puts writes is (wants_in_time (totals_of b) asked in_time refl)

  -- the draft of a version with the keys too
  abbrev DraftsKeys : Nodes → ℕ → GraphVersion → GraphVersion → Type 0
  DraftsKeys q birth old v = Drafts birth b.dict.terms p1 q old v (with_triples (graph_of_root b.dict.terms p1 old.root) (map (triple_at b.dict.terms) ks)) (259 * length ks)

  -- The draft `v`, of the version `old` that the target had.
  module _ (q : Nodes) (birth : ℕ) (old v : GraphVersion) (is : old ≡ version_or (graphs_of b) t) (drafts : DraftsKeys q birth old v) where
    abbrev both : Graph
    both = with_triples (graph_of_root b.dict.terms p1 (version_or (graphs_of b) t).root) (triples_of graph)

    -- it is that of the target, with the upload's triples
    draft_made : Drafts birth b.dict.terms p1 q (version_or (graphs_of b) t) v both (259 * size_of graph)
    draft_made =
        let size_is : length ks ≡ size_of graph = ap length apart.keys_are ∙ sym any.ready.known.counted ∙ size_of_version b.dict.terms b.pool u any.ready.known in
        subst (λ k. Drafts birth b.dict.terms p1 q (version_or (graphs_of b) t) v both (259 * k)) size_is
        (subst (λ ts. Drafts birth b.dict.terms p1 q (version_or (graphs_of b) t) v (with_triples (graph_of_root b.dict.terms p1 (version_or (graphs_of b) t).root) ts) (259 * length ks)) triples_are
        (subst (λ w. DraftsKeys q birth w v) is drafts))

    both_is : both ≡ posted b t u
    both_is = united_target mid t graph ∙ ap (λ m. united (graph_of_target m t) graph) mid_graphs.dataset

    -- what becomes of it, by the counts
    draft_decided : (held : Holdings) (place : Place) (verdict : Verdict) → held ≡ holdings_of (books_setting b) (dataset_of b) b.versions.commit → place ≡ place_in (dataset_of b) t → verdict ≡ verdict_of held place (Stores v.triples true)
        → DecidesPost b t u verdict
    draft_decided held place verdict holds at by =
        let w = books_setting b in
        let m = dataset_of b in
        let size : v.triples ≡ size_of (posted b t u) = size_of_version b.dict.terms q v draft_made.version ∙ ap size_of (draft_made.graph ∙ both_is) in
        let same : verdict ≡ verdict_of (holdings_of w m b.versions.commit) (place_in m t) (Stores (size_of (posted b t u)) true) =
        by ∙ ap (λ h. verdict_of h place (Stores v.triples true)) holds
        ∙ ap (λ x. verdict_of (holdings_of w m b.versions.commit) x (Stores v.triples true)) at
        ∙ ap (λ k. verdict_of (holdings_of w m b.versions.commit) (place_in m t) (Stores k true)) size in
        subst (DecidesPost b t u) (sym same) (store_may w m b.versions.commit t (posted b t u))

    -- taken back, the pool is as it was without the upload
    pub draft_undone : (r : Nodes) → UndoesAll birth q r (tree_at q v.root) → Restores p1 r
    draft_undone r undoes = undoes p1 (tree_at p1 old.root) drafts.began drafts.step

    -- The verdict on it, by the counts of the books.
    module _ (held : Holdings) (place : Place) (holds : held ≡ holdings_of (books_setting b) (dataset_of b) b.versions.commit) (at : place ≡ place_in (dataset_of b) t) where
      -- no commit number is left: it was taken back, and the upload made again
      pub draft_last : (r r' : Nodes) (s : ℕ) (x : GraphVersion) (now : Seat) (a : Answer) → LastNumber ≡ verdict_of held place (Stores v.triples true) → UndoesAll birth q r (tree_at q v.root) → birth ≡ b.versions.commit + 1 → MakesAgain birth r r' ks x → now ≡ Writing (Post t) n x o since → a ≡ Refused NoNumber → IsReady b s (Writing (Post t) n u o since) → Acts b (with_nodes b b.dict r') s (Writing (Post t) n u o since) now Commit a
      draft_last r r' s x now a by undoes born puts writes why =
          let decided = draft_decided held place LastNumber holds at by in
          let would = would_be_stored (books_setting b) (dataset_of b) b.versions.commit (Posts t graph) t (posted b t u) refl refl decided in
          post_refused r (draft_undone r undoes) r' birth s x now a NoNumber born puts writes why (no_number (totals_of b) asked in_time would decided.1)

      -- beyond the limits: it was taken back
      pub draft_full : (r : Nodes) (x : Recorded) (s : ℕ) (now : Seat) → now ≡ Idle → SameNow b.records x → Full ≡ verdict_of held place (Stores v.triples true) → UndoesAll birth q r (tree_at q v.root) → IsReady b s (Writing (Post t) n u o since) → Acts b (with_records (with_nodes b b.dict r) x) s (Writing (Post t) n u o since) now Commit (Status 507 None b.versions.commit)
      draft_full r x s now idle same by undoes ready =
          subst (λ y. Acts b (with_records (with_nodes b b.dict r) x) s (Writing (Post t) n u o since) y Commit (Status 507 None b.versions.commit)) (sym idle)
          (post_full r (draft_undone r undoes) x s same (draft_decided held place Full holds at by) ready)

      -- kept, it is the target's graph
      pub draft_stored : (r : Nodes) (w : Pins) (c : Recorded) (write s status triples names : ℕ) (now : Seat) → now ≡ Idle → Granted status triples names ≡ verdict_of held place (Stores v.triples true) → birth ≡ b.versions.commit + 1
          → KeepsDraftAll b.versions w q r → w ≡ at_commit b.versions (b.versions.commit + 1) → r.nodes ≡ q.nodes → aside_count r ≡ 0 → current c.records ≡ with_version (graphs_of b) t v → IsNext b.records c write birth → last_writes_of (with_draft b b.dict r w c write) ≡ with_write (last_writes_of b) birth t → IsReady b s (Writing (Post t) n u o since)
          → Acts b (with_draft b b.dict r w c write) s (Writing (Post t) n u o since) now Commit (Status status None (b.versions.commit + 1))
      draft_stored r w c write s status triples names now idle by born keeps commit nodes none written latest writes ready =
          let decided = draft_decided held place (Granted status triples names) holds at by in
          let grows = still_grows b.dict b.dict refl in
          let most = 259 * size_of graph in
          let new = with_draft b b.dict r w c write in
          let number = decided.2 in
          let stored = is_stored (books_setting b) (dataset_of b) b.versions.commit (Posts t graph) t (posted b t u) refl refl status triples names decided in
          let last : w.commit ≡ b.versions.commit + 1 = ap (λ (x : Pins). x.commit) commit in
          let here : HasLedger mid (leaf ∷ us₀) rs₀ = mid_ledger us₀ rs₀ l₀ in
          let dataset : dataset_of new ≡ with_graph (dataset_of mid) t both = kept_dataset mid b.dict q r w c write t v both birth most born grows draft_made keeps commit nodes none written latest number mid_graphs.sound (leaf ∷ us₀) rs₀ here in
          let written_is : with_graph (dataset_of mid) t both ≡ with_graph (dataset_of b) t (posted b t u) = λ i. with_graph (mid_graphs.dataset i) t (both_is i) in
          let comes = comes_done (totals_of b) asked in_time status None stored.status_is stored.well refl in
          let state : state_of (totals_of new) ≡ record { dataset = after (books_setting b) (dataset_of b) (Posts t graph); commit = b.versions.commit + 1; last_writes = with_write (last_writes_of b) (b.versions.commit + 1) t } =
          λ i. record { dataset = (dataset ∙ written_is ∙ sym stored.dataset) i; commit = last i; last_writes = (writes ∙ ap (λ k. with_write (last_writes_of b) k t) born) i } in
          let e₀ : KeptEnds mid new t (tree_births (version_tree r v)) most (leaf ∷ us₀) rs₀ = kept_ends mid b.dict q r w c write t v both birth most born grows draft_made keeps commit nodes none written latest number mid_graphs.sound (leaf ∷ us₀) rs₀ here (leaf ∷ us₀) rs₀ here in
          let set = kept_births mid b.dict q r w c write t v both birth most born grows draft_made keeps commit nodes none written latest number mid_graphs.sound (leaf ∷ us₀) rs₀ here in
          let were : (x : Target) → graph_births mid x ≡ graph_births b x = trees_bear b mid refl mid_graphs.trees in
          let renews : Renews b.versions.commit (graph_births b t) (graph_births new t) (waste_at b.pool) (waste_at r) =
          subst (λ x. Renews b.versions.commit (graph_births b t) x (waste_at b.pool) (waste_at r)) (sym set.own)
          (subst (λ x. Renews b.versions.commit (graph_births b t) (tree_births (version_tree r v)) x (waste_at r)) mid_waste
          (subst (λ x. Renews b.versions.commit x (tree_births (version_tree r v)) (waste_at p1) (waste_at r)) (were t) e₀.renews)) in
          let graph_born : GraphBears b.versions.commit t (bearing_by b new (Writing (Post t) n u o since) Idle) =
          ((λ x other. equal_births (graph_births b x) (graph_births new x) (set.others x other ∙ were x)), renews) in
          let acts : Acts b new s (Writing (Post t) n u o since) Idle Commit (Status status None (b.versions.commit + 1)) = record {
            fits = fits_so (totals_of b) asked status None (b.versions.commit + 1) _ comes (λ well. number);
            totals = totals_so b new asked _ comes.state_is refl refl state;
            seat = refl;
            pins = ap (λ (x : Pins). x.seats) commit ∙ sym (set-get_or b.versions.seats s None);
            sound = kept_sound mid b.dict q r w c write t v both birth most born grows draft_made keeps commit nodes none written latest number mid_graphs.sound (leaf ∷ us₀) rs₀ here;
            known = tt;
            version = tt;
            grows = grows;
            ledgers = λ us rs l.
                let e : KeptEnds mid new t (tree_births (version_tree r v)) most (leaf ∷ us) rs = kept_ends mid b.dict q r w c write t v both birth most born grows draft_made keeps commit nodes none written latest number mid_graphs.sound (leaf ∷ us₀) rs₀ here (leaf ∷ us) rs (mid_ledger us rs l.ledger) in
                let copied = taken_over b.versions.commit (size_of graph) most (waste_at b.pool) (waste_at r) (omega arith) (subst (λ ls. Joins (EndsAt (b.versions.commit + 1)) most ls (waste_at r)) mid_waste e.waste) in
                record {
                  ledger = ledger_stays new s Idle us rs l.read l.there e.ledger;
                  waste = subst (λ x. UploadNodes (totals_of b) (Post t) graph x (waste_at b.pool) (waste_at r)) (sym stored.well) copied;
                };
            takes = post_done status (size_of graph) (in_use b.pool) (in_use r) stored.well;
            born = subst (λ x. UploadBears (totals_of b) (Post t) n x (bearing_by b new (Writing (Post t) n u o since) Idle)) (sym stored.well) (graph_born, refl);
          } in
          subst (λ x. Acts b (with_draft b b.dict r w c write) s (Writing (Post t) n u o since) x Commit (Status status None (b.versions.commit + 1))) (sym idle) acts
