-- A draft that was given up: the books are as they were, but that there may be new terms.
use Rattle.std.proofs.Common.{◌≡◌, ◌+◌, ℕ, false, set, List, [], ◌∷◌, map, length, get_or, None, refl, sym, ap, subst, ◌∙◌, true≢false}
use Rattle.std.proofs.lemmas.List.{set-get_or}
use Rattle.gs_event.specs.declared.events.Action.{Action}
use Rattle.gs_event.specs.declared.answers.Answer.{Answer}
use Rattle.gs_event.specs.Phases as phase
use Rattle.gs_event.specs.Views.{FitsSeat, next_totals, next_phase}
use Rattle.gs_event.specs.Born.{Bearing, BirthsStay, Bears}
use Rattle.gs_event.specs.Wasting.{WastesNodes}
use Rattle.gs_event.specs.Steps.{pin_after}
use Rattle.gs_dict.specs.Numbering.{Numbered}
use Rattle.gs_pool.specs.Pool.{Nodes, in_use}
use Rattle.gs_tree.specs.Tree.{Tree, leaf, root_of, keys, tree_at}
use Rattle.gs_keys.specs.Roots.{graph_of_root}
use Rattle.gs_staging.specs.Keys.{Grows}
use Rattle.gs_staging.proofs.KeyLemmas.{still_grows, grows_twice}
use Rattle.gs_changes.specs.Endings.{Restores}
use Rattle.gs_catalogue.specs.declared.versions.GraphVersion.{GraphVersion}
use Rattle.gs_versions.specs.Pins.{with_pin}
use Rattle.gs_ledger.specs.Entries.{tree_births}
use Rattle.gs_ledger.specs.Marks.{dead_at, waste_at}
use Rattle.gs_ledger.specs.Ledger.{IsLedger}
use Rattle.gs_commit.specs.Laws.{IsSamePool}
use Rattle.gs_commit.proofs.LawLemmas.{restored_same}
use Rattle.gs_datasets.specs.Standing.{all_versions, graph_trees, tree_graph, IsKeyed, IsVersion}
use Rattle.gs_datasets.specs.Trees.{Outlasts}
use Rattle.gs_datasets.proofs.Outlasting.{keys_outlast}
use Rattle.gs_quads.specs.Places.{root_at, version_numbers}
use Rattle.gs_tree_store.specs.declared.books.Books.{Books}
use Rattle.gs_tree_store.specs.declared.books.Seat.{Seat}
use Rattle.gs_tree_store.specs.declared.books.Seat.TheVariants.{Idle, Writing, Patching, Reading, ReadingAll}
use Rattle.gs_tree_store.specs.LastWrites.{last_writes_of}
use Rattle.gs_tree_store.specs.Books.{graphs_of, books_setting, dataset_of, totals_of, seat_view_by, upload_tree, read_trees, is_reading, IsSeat, HasItsVersion, IsSound, IsReady, HasLedger, HasLedgerAt}
use Rattle.gs_tree_store.specs.Births.{graph_births, upload_births}
use Rattle.gs_tree_store.specs.Actions.{TakesNodes, bearing_by, Acts}
use Rattle.gs_tree_store.proofs.BornLemmas.{equal_births, roots_bear}
use Rattle.gs_tree_store.proofs.SeatLemmas.{SameGraphs, same_graphs, same_totals, still_sound, ledger_stays, read_ends}

-- the books with other terms and another pool
abbrev pub with_nodes : Books → Numbered → Nodes → Books
with_nodes b d q = record b { dict = d; pool = q }

module _ (b : Books) (d : Numbered) (q : Nodes) (grows : Grows b.dict d) (restores : Restores b.pool q) (sound : IsSound b) where
  same : IsSamePool b.pool q
  same = restored_same b.pool q restores

  kept : SameGraphs b (with_nodes b d q)
  kept = same_graphs b d q b.versions sound grows (λ k w h. same.roots (get_or (all_versions (graphs_of b)) k w).root) restores.aside refl

  -- the totals are the same
  totals_same : totals_of (with_nodes b d q) ≡ totals_of b
  totals_same i = record { setting = books_setting b; dataset = kept.dataset i; request = b.request; commit = b.versions.commit; last_writes = last_writes_of b }

  module _ (v : GraphVersion) (is : IsVersion b.dict.terms b.pool v) where
    outlasts : Outlasts b.dict.terms d.terms (tree_at b.pool v.root)
    outlasts = keys_outlast b.dict.terms d.terms grows.terms (tree_at b.pool v.root) is.keyed

    graph_same : graph_of_root d.terms q v.root ≡ graph_of_root b.dict.terms b.pool v.root
    graph_same = ap (tree_graph d.terms) (same.roots v.root) ∙ outlasts.same

    version_same : IsVersion d.terms q v
    version_same = record {
      root_is = ap root_of (same.roots v.root) ∙ is.root_is;
      keyed = subst (IsKeyed d.terms) (sym (same.roots v.root)) outlasts.keyed;
      counted = is.counted ∙ sym (ap (λ t. length (keys t)) (same.roots v.root));
    }

  -- and so is what a seat shows that does not read
  view_same : (seat : Seat) → is_reading seat ≡ false → IsSeat b.dict.terms b.pool b.records seat → seat_view_by (with_nodes b d q) seat ≡ seat_view_by b seat
  view_same Idle none known = refl
  view_same (Writing k r v o since) none known = ap (λ g. phase.Writing k r g since) (graph_same v known)
  view_same (Patching t r o since) none known = refl
  view_same (Reading root last) none known = absurd (true≢false none)
  view_same (ReadingAll v last) none known = absurd (true≢false none)

  known_same : (seat : Seat) → is_reading seat ≡ false → IsSeat b.dict.terms b.pool b.records seat → IsSeat d.terms q b.records seat
  known_same Idle none known = tt
  known_same (Writing k r v o since) none known = version_same v known
  known_same (Patching t r o since) none known = tt
  known_same (Reading root last) none known = absurd (true≢false none)
  known_same (ReadingAll v last) none known = absurd (true≢false none)

  upload_same : (seat : Seat) → upload_tree q seat ≡ upload_tree b.pool seat
  upload_same Idle = refl
  upload_same (Writing k r v o since) = same.roots v.root
  upload_same (Patching t r o since) = refl
  upload_same (Reading root last) = refl
  upload_same (ReadingAll v last) = refl

  read_same : (seat : Seat) → read_trees q b.records seat ≡ read_trees b.pool b.records seat
  read_same Idle = refl
  read_same (Writing k r v o since) = refl
  read_same (Patching t r o since) = refl
  read_same (Reading root last) = ap (λ t. t ∷ []) (same.roots root)
  read_same (ReadingAll v last) = λ i. map (λ (n : ℕ). same.roots (root_at b.records.records n) i) (version_numbers v b.records)

  ledger_same : (s : ℕ) (seat : Seat) (us : List Tree) (rs : List (List Tree)) → HasLedgerAt b s seat us rs → HasLedgerAt (with_nodes b d q) s seat us rs
  ledger_same s seat us rs l =
      let g = graphs_of b in
      let here : IsLedger q b.versions (graph_trees b.pool g) (upload_tree b.pool seat ∷ us) rs (dead_at q) = same.ledgers b.versions (graph_trees b.pool g) (upload_tree b.pool seat ∷ us) rs l.ledger in
      record {
        ledger = subst (λ u. IsLedger q b.versions (graph_trees q g) (u ∷ us) rs (dead_at q)) (sym (upload_same seat)) (subst (λ gs. IsLedger q b.versions gs (upload_tree b.pool seat ∷ us) rs (dead_at q)) (sym kept.trees) here);
        there = l.there;
        read = l.read ∙ sym (read_same seat);
      }

  -- the books are ready as before
  pub undone_ready : (s : ℕ) (seat : Seat) → is_reading seat ≡ false → IsReady b s seat → IsReady (with_nodes b d q) s seat
  undone_ready s seat none ready = record {
    sound = kept.sound;
    known = known_same seat none ready.known;
    there = ready.there;
    pinned = ready.pinned;
    version = ready.version;
    ledger = record { uploads = ready.ledger.uploads; reads = ready.ledger.reads; ledger = ledger_same s seat ready.ledger.uploads ready.ledger.reads ready.ledger.ledger };
  }

  -- the dataset is the same, and an upload's graph
  pub undone_totals : totals_of (with_nodes b d q) ≡ totals_of b
  undone_totals = totals_same

  pub undone_graph : (v : GraphVersion) → IsVersion b.dict.terms b.pool v → graph_of_root d.terms q v.root ≡ graph_of_root b.dict.terms b.pool v.root
  undone_graph = graph_same

  pub undone_version : (v : GraphVersion) → IsVersion b.dict.terms b.pool v → IsVersion d.terms q v
  undone_version = version_same

  -- what an action makes of them then, it makes of what they were
  pub undone_acts : (new : Books) (s : ℕ) (was now : Seat) (action : Action) (answer : Answer) → is_reading was ≡ false → IsSeat b.dict.terms b.pool b.records was
      → Acts (with_nodes b d q) new s was now action answer → Acts b new s was now action answer
  undone_acts new s was now action answer none known acts =
      let mid = with_nodes b d q in
      let view = view_same was none known in
      record {
        fits = subst (λ t. FitsSeat t (seat_view_by b was) action answer) totals_same (subst (λ p. FitsSeat (totals_of mid) p action answer) view acts.fits);
        totals = acts.totals ∙ (λ i. next_totals (totals_same i) (view i) action answer);
        seat = acts.seat ∙ (λ i. next_phase (totals_same i) (view i) action answer);
        pins = acts.pins;
        sound = acts.sound;
        known = acts.known;
        version = acts.version;
        grows = grows_twice b.dict d new.dict grows acts.grows;
        ledgers = λ us rs l.
            let on = acts.ledgers us rs (ledger_same s was us rs l) in
            record {
              ledger = on.ledger;
              waste = subst (λ w. WastesNodes (totals_of b) (seat_view_by b was) action answer w (waste_at new.pool)) same.waste
                  (subst (λ t. WastesNodes t (seat_view_by b was) action answer (waste_at q) (waste_at new.pool)) totals_same
                  (subst (λ p. WastesNodes (totals_of mid) p action answer (waste_at q) (waste_at new.pool)) view on.waste));
            };
        takes = subst (λ n. TakesNodes (seat_view_by b was) action answer n (in_use new.pool)) restores.in_use (subst (λ p. TakesNodes p action answer (in_use q) (in_use new.pool)) view acts.takes);
        born =
            let before : Bearing → Type 0 = λ x. Bears (totals_of b) (seat_view_by b was) action answer x in
            let born : Bears (totals_of b) (seat_view_by b was) action answer (bearing_by mid new was now) =
            subst (λ t. Bears t (seat_view_by b was) action answer (bearing_by mid new was now)) totals_same
            (subst (λ p. Bears (totals_of mid) p action answer (bearing_by mid new was now)) view acts.born) in
            subst before (λ i. record {
              graphs = λ u. roots_bear b mid same.roots refl u i;
              graphs_then = graph_births new;
              own = tree_births (upload_same was i);
              own_then = upload_births new now;
              waste = same.waste i;
              waste_then = waste_at new.pool;
            }) born;
      }

-- Nothing changes, and the answer says so.
pub nothing_done : (b : Books) (s : ℕ) (seat : Seat) (action : Action) (a : Answer) → FitsSeat (totals_of b) (seat_view_by b seat) action a
    → next_totals (totals_of b) (seat_view_by b seat) action a ≡ record { setting = books_setting b; dataset = dataset_of b; request = b.request + 0; commit = b.versions.commit; last_writes = last_writes_of b }
    → next_phase (totals_of b) (seat_view_by b seat) action a ≡ seat_view_by b seat
    → pin_after b.versions.commit (get_or b.versions.seats s None) action a ≡ get_or b.versions.seats s None
    → WastesNodes (totals_of b) (seat_view_by b seat) action a (waste_at b.pool) (waste_at b.pool)
    → TakesNodes (seat_view_by b seat) action a (in_use b.pool) (in_use b.pool)
    → ((x : Bearing) → BirthsStay x → Bears (totals_of b) (seat_view_by b seat) action a x)
    → IsReady b s seat → Acts b b s seat seat action a
nothing_done b s seat action a fits totals phase pin waste takes bears ready = record {
  fits = fits;
  totals = same_totals b b refl refl refl refl refl ∙ sym totals;
  seat = sym phase;
  pins = sym (ap (set b.versions.seats s) pin ∙ set-get_or b.versions.seats s None);
  sound = ready.sound;
  known = ready.known;
  version = subst (λ x. HasItsVersion x seat) (sym pin) ready.version;
  grows = still_grows b.dict b.dict refl;
  ledgers = λ us rs l. record { ledger = ledger_stays b s seat us rs l.read l.there l.ledger; waste = waste };
  takes = takes;
  born = bears (bearing_by b b seat seat) (λ u f. refl, λ f. refl);
}

-- A read ends, or is given up: its seat is idle, and has nothing pinned.
pub read_over : (b : Books) (s : ℕ) (was : Seat) (action : Action) (a : Answer) → FitsSeat (totals_of b) (seat_view_by b was) action a
    → next_totals (totals_of b) (seat_view_by b was) action a ≡ record { setting = books_setting b; dataset = dataset_of b; request = b.request + 0; commit = b.versions.commit; last_writes = last_writes_of b }
    → next_phase (totals_of b) (seat_view_by b was) action a ≡ phase.Idle
    → pin_after b.versions.commit (get_or b.versions.seats s None) action a ≡ None
    → upload_tree b.pool was ≡ leaf
    → WastesNodes (totals_of b) (seat_view_by b was) action a (waste_at b.pool) (waste_at b.pool)
    → TakesNodes (seat_view_by b was) action a (in_use b.pool) (in_use b.pool)
    → ((x : Bearing) → BirthsStay x → Bears (totals_of b) (seat_view_by b was) action a x)
    → IsReady b s was → Acts b (record b { versions = with_pin b.versions s None }) s was Idle action a
read_over b s was action a fits totals next pin none waste takes bears ready = record {
  fits = fits;
  totals = same_totals b (record b { versions = with_pin b.versions s None }) refl refl refl refl refl ∙ sym totals;
  seat = sym next;
  pins = ap (set b.versions.seats s) (sym pin);
  sound = still_sound b s None ready.sound;
  known = tt;
  version = tt;
  grows = still_grows b.dict b.dict refl;
  ledgers = λ us rs l. record { ledger = read_ends b s us rs ready.there l.there (subst (λ t. HasLedger b (t ∷ us) rs) none l.ledger); waste = waste };
  takes = takes;
  born = bears (bearing_by b (record b { versions = with_pin b.versions s None }) was Idle) (λ u f. refl, equal_births (upload_births b was) [] (sym (ap tree_births none)));
}
