-- What the Open of an upload makes of the books and of the seat, and what a Cancel does.
use Rattle.std.proofs.Common.{◌≡◌, ◌+◌, ◌<◌, ℕ, ◌∷◌, length, get_or, Option, None, refl, sym, ap, subst, ◌∙◌}
use Rattle.std.specs.List.{All, count_by}
use Rattle.std.proofs.lemmas.List.{length-map, set-get_or}
use Rattle.std.specs.Prelude.{is_some, slice_index_or}
use Rattle.gs_model.specs.Graphs.{empty_graph, size_of}
use Rattle.gs_model.specs.Limits.{last_number}
use Rattle.gs_term.specs.declared.names.Target.{Target}
use Rattle.gs_event.specs.declared.events.UploadKind.{UploadKind}
use Rattle.gs_event.specs.declared.events.Action.TheVariants.{Open, Cancel}
use Rattle.gs_event.specs.declared.answers.Answer.TheVariants.{Opened, Cancelled}
use Rattle.gs_event.specs.Phases as phase
use Rattle.gs_event.specs.Wasting.{Joins, IsUnreached}
use Rattle.gs_pool.specs.declared.nodes.Key.{Key}
use Rattle.gs_pool.specs.Pool.{Nodes, aside_count}
use Rattle.gs_tree.specs.Tree.{leaf, keys, tree_at}
use Rattle.gs_keys.specs.Texts.{Terms, triple_at}
use Rattle.gs_keys.specs.Roots.{graph_of_root}
use Rattle.gs_keys.proofs.KeyLemmas.{triples_of_keys}
use Rattle.gs_staging.proofs.KeyLemmas.{still_grows}
use Rattle.gs_catalogue.specs.declared.versions.GraphVersion.{GraphVersion}
use Rattle.gs_catalogue.specs.Catalogues.{empty_version}
use Rattle.gs_versions.specs.Pins.{Pins, with_pin}
use Rattle.gs_records.specs.Records.{Recorded}
use Rattle.gs_records.specs.Births.{Births}
use Rattle.gs_records.specs.Calls.{Opens}
use Rattle.gs_quads.specs.Places.{Place}
use Rattle.gs_ledger.specs.Entries.{tree_births}
use Rattle.gs_ledger.specs.Marks.{dead_at, waste_at}
use Rattle.gs_ledger.specs.Ledger.{IsLedger}
use Rattle.gs_commit.specs.Commits.{DropsAll}
use Rattle.gs_commit.proofs.DeadLemmas.{tree_at_same}
use Rattle.gs_commit.proofs.LawLemmas.{leaf_upload}
use Rattle.gs_datasets.specs.Standing.{dataset_at, all_versions, graph_trees, target_tree, IsVersion}
use Rattle.gs_tree_store.specs.declared.books.Books.{Books}
use Rattle.gs_tree_store.specs.declared.books.Seat.{Seat}
use Rattle.gs_tree_store.specs.declared.books.Seat.TheVariants.{Idle, Writing, Patching, Reading, ReadingAll}
use Rattle.gs_tree_store.specs.Books.{graphs_of, books_setting, IsReady}
use Rattle.gs_tree_store.specs.Births.{graph_births}
use Rattle.gs_tree_store.specs.Writes.{HasUpload, GivesUpUpload}
use Rattle.gs_tree_store.specs.Actions.{Acts}
use Rattle.gs_tree_store.proofs.CommitLemmas.{empty_is}
use Rattle.gs_tree_store.proofs.BornLemmas.{equal_births, roots_bear}
use Rattle.gs_tree_store.proofs.AlikeLemmas.{SameNow, gives_up_same, acts_alike}
use Rattle.gs_tree_store.proofs.WriteLemmas.{has_upload}
use Rattle.gs_tree_store.proofs.UndoneLemmas.{read_over}
use Rattle.gs_tree_store.proofs.SeatLemmas.{still_unpinned, same_totals, same_graphs, ledger_stays}

-- an upload is opened
opened_now : (b : Books) (s : ℕ) (k : UploadKind) (n : ℕ) (since : Option ℕ) (x : Recorded) → b.request < last_number → Opens b.records x n → IsReady b s Idle
    → Acts b (record b { request = b.request + 1; records = x }) s Idle (Writing k (b.request + 1) empty_version n since) (Open k since) (Opened (b.request + 1))
opened_now b s k n since x number opens ready =
    let p = b.pool in
    let terms = b.dict.terms in
    let g = graphs_of b in
    let new : Books = record b { request = b.request + 1; records = x } in
    let now : graphs_of new ≡ g = opens.graphs.now in
    let none : graph_of_root terms p None ≡ empty_graph = refl in
    let sound = ready.sound in
    record {
      fits = (number, refl);
      totals = λ i. record { setting = books_setting b; dataset = dataset_at terms p (now i); request = b.request + 1; commit = b.versions.commit; last_writes = record { unnamed = b.default_write; named = (opens.graphs.births i).named; removed = b.last_delete } };
      seat = ap (λ h. phase.Writing k (b.request + 1) h since) none;
      pins = sym (set-get_or b.versions.seats s None);
      sound = record {
        versions = subst (λ h. All (IsVersion terms p) (all_versions h)) (sym now) sound.versions;
        none_aside = sound.none_aside;
        commit = sound.commit;
        latest = opens.latest ∙ sound.latest;
        numbers = opens.limit ∙ sound.numbers;
        base = sound.base;
        written = λ m e. sound.written m (ap (λ (h : Births). h.unnamed) (sym opens.graphs.births) ∙ e);
      };
      known = empty_is terms p;
      version = tt;
      grows = still_grows b.dict b.dict refl;
      ledgers = λ us rs l. record {
        ledger = ledger_stays new s (Writing k (b.request + 1) empty_version n since) us rs l.read l.there (subst (λ h. IsLedger p b.versions (graph_trees p h) (leaf ∷ us) rs (dead_at p)) (sym now) l.ledger);
        waste = refl;
      };
      takes = refl;
      born = ((λ u. equal_births (graph_births b u) (graph_births new u) (ap (λ h. tree_births (target_tree p h u)) now)), λ f. refl);
    }

pub upload_opened : (b : Books) (s : ℕ) (seat : Seat) (k j : UploadKind) (v : GraphVersion) (n : ℕ) (since : Option ℕ) (x : Recorded) → seat ≡ Idle → j ≡ k → v ≡ empty_version → b.request < last_number → Opens b.records x n → IsReady b s seat
    → Acts b (record b { request = b.request + 1; records = x }) s seat (Writing j (b.request + 1) v n since) (Open k since) (Opened (b.request + 1))
upload_opened b s seat k j v n since x idle same none number opens =
    let new : Books = record b { request = b.request + 1; records = x } in
    subst (λ y. IsReady b s y → Acts b new s y (Writing j (b.request + 1) v n since) (Open k since) (Opened (b.request + 1))) (sym idle)
    (λ ready.
    subst (λ y. Acts b new s Idle (Writing y (b.request + 1) v n since) (Open k since) (Opened (b.request + 1))) (sym same)
    (subst (λ y. Acts b new s Idle (Writing k (b.request + 1) y n since) (Open k since) (Opened (b.request + 1))) (sym none) (opened_now b s k n since x number opens ready)))

-- the upload of a seat that writes
pub seat_upload : (b : Books) (s : ℕ) (seat : Seat) (k : UploadKind) (r : ℕ) (v : GraphVersion) (o : ℕ) (since : Option ℕ) → seat ≡ Writing k r v o since → IsReady b s seat → HasUpload b v
seat_upload b s seat k r v o since writes =
    subst (λ x. IsReady b s x → HasUpload b v) (sym writes)
    (λ (ready : IsReady b s (Writing k r v o since)). has_upload b k r v o since (record { number = s; ready = ready }))

-- a version's graph has a triple for each key
pub version_size : (terms : Terms) (p : Nodes) (v : GraphVersion) → IsVersion terms p v → size_of (graph_of_root terms p v.root) ≡ length (keys (tree_at p v.root))
version_size terms p v is =
    let ks = keys (tree_at p v.root) in
    ap length (triples_of_keys terms ks is.keyed.rising is.keyed.given) ∙ length-map ks (triple_at terms)

-- an upload is given up
upload_dropped : (b : Books) (s : ℕ) (k : UploadKind) (r : ℕ) (v : GraphVersion) (o : ℕ) (since : Option ℕ) (q : Nodes) → q.nodes ≡ b.pool.nodes → aside_count q ≡ aside_count b.pool → DropsAll b.pool q v.root → IsReady b s (Writing k r v o since)
    → Acts b (record b { pool = q }) s (Writing k r v o since) Idle Cancel Cancelled
upload_dropped b s k r v o since q nodes aside drops ready =
    let p = b.pool in
    let gs = graph_trees p (graphs_of b) in
    let vs = all_versions (graphs_of b) in
    let grows = still_grows b.dict b.dict refl in
    let means = tree_at_same p q (λ x. ap (λ ns. slice_index_or ns x None) nodes) in
    let kept = same_graphs b b.dict q b.versions ready.sound grows (λ j w h. means (get_or vs j w).root) (aside ∙ ready.sound.none_aside) refl in
    let size = version_size b.dict.terms p v ready.known in
    record {
      fits = tt;
      totals = same_totals b (record b { pool = q }) refl kept.dataset refl refl refl;
      seat = refl;
      pins = still_unpinned b s (Writing k r v o since) refl ready;
      sound = kept.sound;
      known = tt;
      version = tt;
      grows = grows;
      ledgers = λ us rs l.
          let dropped = drops b.versions gs us rs l.ledger in
          let ledger = (leaf_upload q b.versions gs us rs (dead_at q)).0 dropped.ledger in
          record {
            ledger = ledger_stays (record b { pool = q }) s Idle us rs l.read l.there (subst (λ ts. IsLedger q b.versions ts (leaf ∷ us) rs (dead_at q)) (sym kept.trees) ledger);
            waste = subst (λ n. Joins IsUnreached n (waste_at p) (waste_at q)) (sym size) dropped.waste;
          };
      takes = ap (λ ns. count_by is_some ns) nodes;
      born = ((λ u. equal_births (graph_births b u) (graph_births (record b { pool = q }) u) (roots_bear b (record b { pool = q }) means refl u)), refl);
    }

pub upload_cancelled : (b c : Books) (s : ℕ) (seat : Seat) (k : UploadKind) (r : ℕ) (v : GraphVersion) (o : ℕ) (since : Option ℕ) → seat ≡ Writing k r v o since → GivesUpUpload b c o v → IsReady b s seat → Acts b c s seat Idle Cancel Cancelled
upload_cancelled b c s seat k r v o since writes drops =
    subst (λ y. IsReady b s y → Acts b c s y Idle Cancel Cancelled) (sym writes)
    (λ ready. subst (λ y. Acts b y s (Writing k r v o since) Idle Cancel Cancelled) (sym drops.is)
    (acts_alike (record b { pool = c.pool }) c.records (gives_up_same b.records c.records o drops.gives) b s (Writing k r v o since) Cancel Cancelled
    (upload_dropped b s k r v o since c.pool drops.nodes drops.aside drops.ledgers ready)))

-- a patch is given up
patch_dropped : (b : Books) (s : ℕ) (t : Target) (r o : ℕ) (since : Option ℕ) → IsReady b s (Patching t r o since) → Acts b b s (Patching t r o since) Idle Cancel Cancelled
patch_dropped b s t r o since ready = record {
  fits = tt;
  totals = same_totals b b refl refl refl refl refl;
  seat = refl;
  pins = still_unpinned b s (Patching t r o since) refl ready;
  sound = ready.sound;
  known = tt;
  version = tt;
  grows = still_grows b.dict b.dict refl;
  ledgers = λ us rs l. record { ledger = ledger_stays b s Idle us rs l.read l.there l.ledger; waste = refl };
  takes = refl;
  born = (λ u f. refl, λ f. refl);
}

pub patch_cancelled : (b c : Books) (s : ℕ) (seat : Seat) (t : Target) (r o : ℕ) (since : Option ℕ) (x : Recorded) → seat ≡ Patching t r o since → c ≡ record b { records = x } → SameNow b.records x → IsReady b s seat → Acts b c s seat Idle Cancel Cancelled
patch_cancelled b c s seat t r o since x patches is same =
    subst (λ y. IsReady b s y → Acts b c s y Idle Cancel Cancelled) (sym patches)
    (λ ready. subst (λ y. Acts b y s (Patching t r o since) Idle Cancel Cancelled) (sym is) (acts_alike b x same b s (Patching t r o since) Cancel Cancelled (patch_dropped b s t r o since ready)))

-- a read is given up
read_dropped : (b : Books) (s : ℕ) (root : Option ℕ) (last : Option Key) → IsReady b s (Reading root last) → Acts b (record b { versions = with_pin b.versions s None }) s (Reading root last) Idle Cancel Cancelled
read_dropped b s root last ready = read_over b s (Reading root last) Cancel Cancelled tt refl refl refl refl refl refl (λ x none. none) ready

pub read_cancelled : (b c : Books) (s : ℕ) (seat : Seat) (root : Option ℕ) (last : Option Key) (w : Pins) → seat ≡ Reading root last → c ≡ record b { versions = w } → w ≡ with_pin b.versions s None → IsReady b s seat → Acts b c s seat Idle Cancel Cancelled
read_cancelled b c s seat root last w reads is pin =
    subst (λ x. IsReady b s x → Acts b c s x Idle Cancel Cancelled) (sym reads)
    (λ ready. subst (λ y. Acts b y s (Reading root last) Idle Cancel Cancelled) (sym (is ∙ ap (λ (x : Pins). record b { versions = x }) pin)) (read_dropped b s root last ready))

-- a read of all graphs is given up
all_dropped : (b : Books) (s v : ℕ) (last : Option Place) → IsReady b s (ReadingAll v last) → Acts b (record b { versions = with_pin b.versions s None }) s (ReadingAll v last) Idle Cancel Cancelled
all_dropped b s v last ready = read_over b s (ReadingAll v last) Cancel Cancelled tt refl refl refl refl refl refl (λ x none. none) ready

pub all_cancelled : (b c : Books) (s : ℕ) (seat : Seat) (v : ℕ) (last : Option Place) (w : Pins) → seat ≡ ReadingAll v last → c ≡ record b { versions = w } → w ≡ with_pin b.versions s None → IsReady b s seat → Acts b c s seat Idle Cancel Cancelled
all_cancelled b c s seat v last w reads is pin =
    subst (λ x. IsReady b s x → Acts b c s x Idle Cancel Cancelled) (sym reads)
    (λ ready. subst (λ y. Acts b y s (ReadingAll v last) Idle Cancel Cancelled) (sym (is ∙ ap (λ (x : Pins). record b { versions = x }) pin)) (all_dropped b s v last ready))
