-- What a write makes of a seat and of its books.
use Rattle.std.proofs.Common.{◌≡◌, ◌+◌, ◌*◌, ◌<◌, ◌≤◌, ℕ, true, false, List, [], ◌∷◌, length, get_or, set, Option, None, is_some, count_by, refl, sym, ap, subst, ◌∙◌, arith, true≢false}
use Rattle.std.proofs.lemmas.List.{set-get_or}
use Rattle.std.proofs.lemmas.List.Elements.{All-head}
use Rattle.gs_model.specs.Graphs.{Graph, size_of}
use Rattle.gs_model.specs.Limits.{last_number}
use Rattle.gs_model.specs.declared.refusals.Refusal.{Refusal}
use Rattle.gs_model.specs.declared.refusals.Refusal.TheVariants.{LastNumber}
use Rattle.gs_term.specs.declared.names.Target.{Target}
use Rattle.gs_event.specs.declared.events.UploadKind.{UploadKind}
use Rattle.gs_event.specs.declared.events.UploadKind.TheVariants.{Put, Post, New}
use Rattle.gs_event.specs.declared.events.Action.TheVariants.{Commit}
use Rattle.gs_event.specs.declared.answers.Answer.TheVariants.{Refused, Status}
use Rattle.gs_event.specs.Datasets.{size_at}
use Rattle.gs_event.specs.Operations.{after, location_of, is_success}
use Rattle.gs_event.specs.Conditions.{Asked, asked_since, is_late, last_writes_after, with_write}
use Rattle.gs_event.specs.Phases.{write_of}
use Rattle.gs_event.specs.Phases as phase
use Rattle.gs_event.specs.Views.{Totals, state_of, FitsWrite}
use Rattle.gs_event.specs.Waste.{Lifetime}
use Rattle.gs_event.specs.Born.{Bearing, Hands, UploadBears}
use Rattle.gs_event.specs.Wasting.{Joins, JoinsBoth, IsUnreached, EndsAt, most_for_new, UploadNodes, UploadRecords}
use Rattle.gs_pool.specs.declared.nodes.Node.{Node}
use Rattle.gs_pool.specs.Pool.{Nodes, in_use, aside_count}
use Rattle.gs_tree.specs.Tree.{Tree, keys, tree_at}
use Rattle.gs_keys.specs.Roots.{graph_of_root}
use Rattle.gs_staging.proofs.KeyLemmas.{still_grows}
use Rattle.gs_catalogue.specs.declared.versions.GraphVersion.{GraphVersion}
use Rattle.gs_ledger.specs.Marks.{dead_at, waste_at}
use Rattle.gs_ledger.specs.Ledger.{IsLedger}
use Rattle.gs_reclaim.specs.Reclaims.{CanRetireRoot}
use Rattle.gs_datasets.specs.Standing.{all_versions, graph_trees, AreSameIn}
use Rattle.gs_datasets.proofs.Outlasting.{keys_last}
use Rattle.gs_datasets.proofs.Writing.{same_trees, versions_kept, dataset_kept}
use Rattle.gs_commit.specs.Commits.{DropsUpload}
use Rattle.gs_commit.specs.Laws.{IsRetirable}
use Rattle.gs_commit.proofs.RootLemmas.{ledger_retirable}
use Rattle.gs_commit.proofs.LawLemmas.{leaf_upload}
use Rattle.gs_tree_store.specs.declared.books.Books.{Books}
use Rattle.gs_tree_store.specs.declared.books.Seat.{Seat}
use Rattle.gs_tree_store.specs.declared.books.Seat.TheVariants.{Idle, Writing}
use Rattle.gs_tree_store.specs.Books.{graphs_of, books_setting, dataset_of, totals_of, upload_tree, IsSound, HasLedger, HasLedgerAt, IsReady}
use Rattle.gs_tree_store.specs.Births.{graph_births, upload_births}
use Rattle.gs_tree_store.specs.LastWrites.{last_writes_of}
use Rattle.gs_tree_store.specs.Writes.{HasUpload, EndsOneVersion, Puts, GivesUpUpload}
use Rattle.gs_tree_store.specs.Verdicts.{HasCounts}
use Rattle.gs_tree_store.specs.Actions.{TakesNodes, bearing_by, Acts, IsReadyAny}
use Rattle.gs_tree_store.proofs.BornLemmas.{equal_births, roots_bear, refused_bears, failed_bears}
use Rattle.gs_tree_store.proofs.ConditionLemmas.{ComesTo, fits_so, totals_so, comes_done, comes_undone, post_done}
use Rattle.gs_tree_store.proofs.SeatLemmas.{same_totals}
use Rattle.gs_tree_store.proofs.AlikeLemmas.{gives_up_same, acts_alike}
use Rattle.gs_tree_store.proofs.CommitLemmas.{roots_same}
use Rattle.gs_tree_store.proofs.VerdictLemmas.{size_of_version, IsStored, IsNotStored}

-- the graph of an upload
abbrev pub upload_graph : Books → GraphVersion → Graph
upload_graph b v = graph_of_root b.dict.terms b.pool v.root

-- what the abstract store is asked by its commit
abbrev pub asked_by : Books → UploadKind → ℕ → GraphVersion → Option ℕ → Asked
asked_by b k r v since = asked_since since (write_of k r (upload_graph b v))

-- books that are ready have the counts that a verdict asks for
pub has_counts : (b : Books) (seat : Seat) → IsReadyAny b seat → HasCounts b
has_counts b seat any =
    let l = any.ready.ledger in
    record { sound = any.ready.sound; ledger = record { uploads = upload_tree b.pool seat ∷ l.uploads; reads = l.reads; ledger = l.ledger.ledger } }

-- and the upload of a seat that writes
pub has_upload : (b : Books) (k : UploadKind) (r : ℕ) (v : GraphVersion) (o : ℕ) (since : Option ℕ) → IsReadyAny b (Writing k r v o since) → HasUpload b v
has_upload b k r v o since any =
    let l = any.ready.ledger in
    record { version = any.ready.known; uploads = l.uploads; reads = l.reads; ledger = l.ledger.ledger }

-- the root of an upload can be retired
pub upload_retirable : (b : Books) (v : GraphVersion) → HasUpload b v → CanRetireRoot b.pool v.root
upload_retirable b v has =
    let tree = tree_at b.pool v.root in
    let gs = graph_trees b.pool (graphs_of b) in
    let can : IsRetirable b.pool tree = All-head (IsRetirable b.pool) tree has.uploads (ledger_retirable b.pool b.versions gs (tree ∷ has.uploads) has.reads (dead_at b.pool) has.ledger).staged in
    subst (CanRetireRoot b.pool) has.version.root_is can.root

-- the next commit is later than the last of the records
pub next_later : (b : Books) (seat : Seat) (birth : ℕ) → birth ≡ b.versions.commit + 1 → IsReadyAny b seat → b.records.latest < birth
next_later b seat birth born any = omega (arith, born, any.ready.sound.latest)

-- what is at a place is set there
pub set_there : {X : Type 0} (xs : List X) (s : ℕ) (d x : X) → get_or xs s d ≡ x → set xs s x ≡ xs
set_there xs s d x is = ap (set xs s) (sym is) ∙ set-get_or xs s d

-- the seat is idle, and reads nothing, as before
pub idle_ledger : (b : Books) (s : ℕ) (us : List Tree) (rs : List (List Tree)) → s < length rs → get_or rs s [] ≡ [] → HasLedger b us rs → HasLedgerAt b s Idle us (set rs s [])
idle_ledger b s us rs there none l =
    subst (HasLedgerAt b s Idle us) (sym (set_there rs s [] [] none))
    (record { ledger = (leaf_upload b.pool b.versions (graph_trees b.pool (graphs_of b)) us rs (dead_at b.pool)).0 l; there = there; read = none })

-- as many nodes are in use where the nodes are the same
pub same_use : (p q : Nodes) → q.nodes ≡ p.nodes → in_use q ≡ in_use p
same_use p q nodes = ap (λ (ns : List (Option Node)). count_by is_some ns) nodes

refused_takes : (k : UploadKind) (r : ℕ) (g : Graph) (since : Option ℕ) (e : Refusal) (n : ℕ) → TakesNodes (phase.Writing k r g since) Commit (Refused e) n n
refused_takes (Put t) r g since e n = refl
refused_takes (Post t) r g since e n = refl
refused_takes New r g since e n = refl

-- an upload that was answered so takes no node
abbrev TakesNone : UploadKind → ℕ → Graph → Option ℕ → ℕ → ℕ → Type 0
TakesNone k r g since status number = (m n : ℕ) → n ≡ m → TakesNodes (phase.Writing k r g since) Commit (Status status None number) m n

-- so it is with one that came too late
pub late_takes : (k : UploadKind) (r : ℕ) (g : Graph) (since : Option ℕ) (number : ℕ) → TakesNone k r g since 412 number
late_takes (Put t) r g since number m n same = same
late_takes (Post t) r g since number m n same = same
late_takes New r g since number m n same = same

stored_takes : (k : UploadKind) (r : ℕ) (g : Graph) (since : Option ℕ) (status : ℕ) (name : Option (List ℕ)) (number m n : ℕ) → is_success status ≡ true → n ≡ m → TakesNodes (phase.Writing k r g since) Commit (Status status name number) m n
stored_takes (Put t) r g since status name number m n well same = same
stored_takes (Post t) r g since status name number m n well same = post_done status (size_of g) m n well
stored_takes New r g since status name number m n well same = same

-- a commit that finds no number left: nothing changes
pub commit_refused : (b : Books) (s : ℕ) (k : UploadKind) (r : ℕ) (v : GraphVersion) (o : ℕ) (since : Option ℕ) → FitsWrite (totals_of b) (asked_by b k r v since) (Refused LastNumber) → IsReady b s (Writing k r v o since) → Acts b b s (Writing k r v o since) (Writing k r v o since) Commit (Refused LastNumber)
commit_refused b s k r v o since fits ready = record {
  fits = fits;
  totals = same_totals b b refl refl refl refl refl;
  seat = refl;
  pins = sym (set-get_or b.versions.seats s None);
  sound = ready.sound;
  known = ready.known;
  version = tt;
  grows = still_grows b.dict b.dict refl;
  ledgers = λ us rs l. record { ledger = subst (HasLedgerAt b s (Writing k r v o since) us) (sym (set_there rs s [] [] l.read)) l; waste = refl };
  takes = refused_takes k r (upload_graph b v) since LastNumber (in_use b.pool);
  born = refused_bears (totals_of b) k r (upload_graph b v) since LastNumber (bearing_by b b (Writing k r v o since) (Writing k r v o since)) (λ u f. refl, λ f. refl);
}

-- nodes that stay are the same trees
pub versions_same : (b : Books) (q : Nodes) → q.nodes ≡ b.pool.nodes → AreSameIn b.pool q (all_versions (graphs_of b))
versions_same b q nodes = λ k d h. roots_same b.pool q nodes (get_or (all_versions (graphs_of b)) k d).root

-- the books with another pool, where each version has the tree that it had
module _ (b : Books) (q : Nodes) (sound : IsSound b) (same : AreSameIn b.pool q (all_versions (graphs_of b))) where
  same_dataset : dataset_of (record b { pool = q }) ≡ dataset_of b
  same_dataset = dataset_kept b.dict.terms b.dict.terms (keys_last b.dict.terms) b.pool q (graphs_of b) sound.versions same

  still_sound : aside_count q ≡ 0 → IsSound (record b { pool = q })
  still_sound none = record {
    versions = versions_kept b.dict.terms b.dict.terms (keys_last b.dict.terms) b.pool q (all_versions (graphs_of b)) sound.versions same;
    none_aside = none;
    commit = sound.commit;
    latest = sound.latest;
    numbers = sound.numbers;
    base = sound.base;
    written = sound.written;
  }

  graphs_same : (us : List Tree) (rs : List (List Tree)) → IsLedger q b.versions (graph_trees b.pool (graphs_of b)) us rs (dead_at q) → HasLedger (record b { pool = q }) us rs
  graphs_same us rs l = subst (λ gs. IsLedger q b.versions gs us rs (dead_at q)) (sym (same_trees b.pool q (all_versions (graphs_of b)) same)) l

failed_wastes : (v : Totals) (k : UploadKind) (g : Graph) (old new : List Lifetime) → Joins IsUnreached (size_of g) old new → UploadNodes v k g false old new
failed_wastes v (Put t) g old new j = j
failed_wastes v (Post t) g old new j = j
failed_wastes v New g old new j = j

pub failed_records : (v : Totals) (k : UploadKind) (g : Graph) (old new : List Lifetime) → Joins IsUnreached 1 old new → UploadRecords v k g false old new
failed_records v (Put t) g old new j = j
failed_records v (Post t) g old new j = j
failed_records v New g old new j = j

-- a commit without effect: the upload was dropped, and its record given up
pub commit_failed : (b new : Books) (s : ℕ) (k : UploadKind) (r : ℕ) (v : GraphVersion) (o : ℕ) (since : Option ℕ) (status number : ℕ) → GivesUpUpload b new o v
    → ComesTo (totals_of b) (asked_by b k r v since) status None number (state_of (totals_of b)) → is_success status ≡ false
    → IsReady b s (Writing k r v o since) → TakesNone k r (upload_graph b v) since status number → Acts b new s (Writing k r v o since) Idle Commit (Status status None number)
commit_failed b new s k r v o since status number drops comes fails ready takes =
    let q = new.pool in
    let g = upload_graph b v in
    let gs = graph_trees b.pool (graphs_of b) in
    let same = versions_same b q drops.nodes in
    let none = drops.aside ∙ ready.sound.none_aside in
    let dataset = same_dataset b q ready.sound same in
    let dropped : Books = record b { pool = q } in
    let state : state_of (totals_of dropped) ≡ state_of (totals_of b) = λ i. record { dataset = dataset i; commit = b.versions.commit; last_writes = last_writes_of b } in
    let size : length (keys (tree_at b.pool v.root)) ≡ size_of g = sym ready.known.counted ∙ size_of_version b.dict.terms b.pool v ready.known in
    subst (λ x. Acts b x s (Writing k r v o since) Idle Commit (Status status None number)) (sym drops.is)
    (acts_alike dropped new.records (gives_up_same b.records new.records o drops.gives) b s (Writing k r v o since) Commit (Status status None number)
    (record {
      fits = fits_so (totals_of b) (asked_by b k r v since) status None number (state_of (totals_of b)) comes (λ well. absurd (true≢false (sym well ∙ fails)));
      totals = totals_so b dropped (asked_by b k r v since) (state_of (totals_of b)) comes.state_is refl refl state;
      seat = refl;
      pins = sym (set-get_or b.versions.seats s None);
      sound = still_sound b q ready.sound same none;
      known = tt;
      version = tt;
      grows = still_grows b.dict b.dict refl;
      ledgers = λ us rs l.
          let d : DropsUpload b.versions b.pool q (tree_at b.pool v.root) gs us rs = drops.ledgers b.versions gs us rs l.ledger in
          record {
            ledger = idle_ledger dropped s us rs l.there l.read (graphs_same b q ready.sound same us rs d.ledger);
            waste = subst (λ x. UploadNodes (totals_of b) k g x (waste_at b.pool) (waste_at q)) (sym fails)
                (failed_wastes (totals_of b) k g (waste_at b.pool) (waste_at q) (subst (λ n. Joins IsUnreached n (waste_at b.pool) (waste_at q)) size d.waste));
          };
      takes = takes (in_use b.pool) (in_use q) (same_use b.pool q drops.nodes);
      born = subst (λ x. UploadBears (totals_of b) k r x (bearing_by b dropped (Writing k r v o since) Idle)) (sym fails)
          (failed_bears (totals_of b) k r (bearing_by b dropped (Writing k r v o since) Idle) (λ u. equal_births (graph_births b u) (graph_births dropped u) (roots_bear b dropped (roots_same b.pool q drops.nodes) refl u)) refl);
    }))

-- so it was where it was beyond the limits, or came too late
pub upload_full : (b new : Books) (s : ℕ) (k : UploadKind) (r : ℕ) (v : GraphVersion) (o : ℕ) (since : Option ℕ) (number : ℕ) → GivesUpUpload b new o v → is_late (state_of (totals_of b)) since (write_of k r (upload_graph b v)) ≡ false
    → IsNotStored (books_setting b) (dataset_of b) (write_of k r (upload_graph b v)) → None ≡ location_of (books_setting b) (dataset_of b) (write_of k r (upload_graph b v)) → number ≡ new.versions.commit
    → IsReady b s (Writing k r v o since) → TakesNone k r (upload_graph b v) since 507 b.versions.commit → Acts b new s (Writing k r v o since) Idle Commit (Status 507 None number)
upload_full b new s k r v o since number drops in_time not name is ready takes =
    let last : number ≡ b.versions.commit = is ∙ ap (λ (x : Books). x.versions.commit) drops.is in
    subst (λ n. Acts b new s (Writing k r v o since) Idle Commit (Status 507 None n)) (sym last)
    (commit_failed b new s k r v o since 507 b.versions.commit drops (comes_undone (totals_of b) (asked_by b k r v since) in_time 507 None not.status_is refl name not.dataset) refl ready takes)

-- a commit with effect: the target has the upload's graph
pub commit_stored : (old new : Books) (s : ℕ) (k : UploadKind) (r : ℕ) (v : GraphVersion) (o : ℕ) (since : Option ℕ) (t : Target) (status : ℕ) (name : Option (List ℕ)) (number : ℕ) → Puts old new o t v → old.versions.commit < last_number
    → is_late (state_of (totals_of old)) since (write_of k r (upload_graph old v)) ≡ false
    → IsStored (books_setting old) (dataset_of old) (write_of k r (upload_graph old v)) t (upload_graph old v) status → name ≡ location_of (books_setting old) (dataset_of old) (write_of k r (upload_graph old v)) → number ≡ new.versions.commit
    → last_writes_after (books_setting old) (dataset_of old) (last_writes_of old) (old.versions.commit + 1) (write_of k r (upload_graph old v)) ≡ with_write (last_writes_of old) (old.versions.commit + 1) t
    → ((a b : List Lifetime) → Joins (EndsAt (old.versions.commit + 1)) (size_at (dataset_of old) t) a b → UploadNodes (totals_of old) k (upload_graph old v) true a b)
    → ((x : Bearing) → Hands old.versions.commit t x → x.own_then ≡ [] → UploadBears (totals_of old) k r true x)
    → IsReady old s (Writing k r v o since) → Acts old new s (Writing k r v o since) Idle Commit (Status status name number)
commit_stored old new s k r v o since t status name number puts left in_time stored reported is writes wastes bears ready =
    let g = upload_graph old v in
    let q = asked_by old k r v since in
    let kept = puts.kept in
    let comes = comes_done (totals_of old) q in_time status name stored.status_is stored.well reported in
    let dataset = puts.dataset ∙ sym stored.dataset in
    let last_writes = puts.last_writes ∙ sym writes in
    let state : state_of (totals_of new) ≡ record { dataset = after (books_setting old) (dataset_of old) q.operation; commit = old.versions.commit + 1; last_writes = last_writes_after (books_setting old) (dataset_of old) (last_writes_of old) (old.versions.commit + 1) q.operation } =
    λ i. record { dataset = dataset i; commit = kept.commit i; last_writes = last_writes i } in
    subst (λ n. Acts old new s (Writing k r v o since) Idle Commit (Status status name n)) (sym (is ∙ kept.commit))
    (record {
      fits = fits_so (totals_of old) q status name (old.versions.commit + 1) _ comes (λ well. left);
      totals = totals_so old new q _ comes.state_is (λ i. record { base = kept.base i; limits = kept.limits i }) kept.request state;
      seat = refl;
      pins = kept.pins ∙ sym (set-get_or old.versions.seats s None);
      sound = puts.sound;
      known = tt;
      version = tt;
      grows = still_grows old.dict new.dict kept.dict;
      ledgers = λ us rs l.
          let e : EndsOneVersion old new (size_at (dataset_of old) t) (graph_births old t) us rs = puts.ledgers us rs l.ledger in
          record {
            ledger = idle_ledger new s us rs l.there l.read e.ledger;
            waste = subst (λ b. UploadNodes (totals_of old) k g b (waste_at old.pool) (waste_at new.pool)) (sym stored.well) (wastes (waste_at old.pool) (waste_at new.pool) e.waste);
          };
      takes = stored_takes k r g since status name (old.versions.commit + 1) (in_use old.pool) (in_use new.pool) stored.well (same_use old.pool new.pool kept.nodes);
      born =
          let own = ready.ledger in
          let e : EndsOneVersion old new (size_at (dataset_of old) t) (graph_births old t) own.uploads own.reads = puts.ledgers own.uploads own.reads own.ledger.ledger in
          let x = bearing_by old new (Writing k r v o since) Idle in
          let handed : Hands old.versions.commit t x = (
            (λ u other. equal_births (graph_births old u) (graph_births new u) (puts.births.others u other)),
            equal_births (upload_births old (Writing k r v o since)) (graph_births new t) puts.births.own,
            e.leave,
          ) in
          subst (λ y. UploadBears (totals_of old) k r y x) (sym stored.well) (bears x handed refl);
    })

-- where an upload leaves no waste, that is what was replaced
pub taken_over : (last size most : ℕ) (a b : List Lifetime) → most ≤ most_for_new * size → Joins (EndsAt (last + 1)) most a b → JoinsBoth (EndsAt (last + 1)) size (most_for_new * size) a b
taken_over last size most a b few j = record {
  between = a;
  unused = record { more = []; few = omega arith; same = λ f. omega arith; ended = λ k d lt. absurd (omega arith) };
  replaced = record { more = j.more; few = omega (arith, j.few, few); same = j.same; ended = j.ended };
}
