-- What holds of a store without graphs, whose seats are idle.
use Rattle.std.proofs.Common.{◌≡◌, ◌≤◌, ℕ, zero, suc, ◌+◌, true, false, List, [], ◌∷◌, ◌++◌, map, replicate, get_or, Option, Some, None, is_some, refl, sym, ap, ◌∙◌, subst, arith, add-zero, string_bytes, true≢false}
use Rattle.std.specs.List.{All, count_by, sum_by, range_with_len}
use Rattle.std.specs.FinMap as fin
use Rattle.std.proofs.lemmas.List.{nil_from_length}
use Rattle.std.proofs.lemmas.List.Elements.{All-nil, All-cons, All-map, All-replicate}
use Rattle.std.proofs.lemmas.List.Sums.{sum_by-cons}
use Rattle.std.proofs.lemmas.Option.{none-some}
use Rattle.gs_model.specs.Bases.{is_base}
use Rattle.gs_model.specs.Limits.{last_number, last_node}
use Rattle.gs_term.specs.Names.{name_cmp}
use Rattle.gs_event.specs.Births.{no_births}
use Rattle.gs_event.specs.Datasets.{empty_dataset}
use Rattle.gs_event.specs.Histories.{Start, view_of, pinned_of}
use Rattle.gs_event.specs.Phases as phase
use Rattle.gs_event.specs.Views.{SeatView}
use Rattle.gs_pool.specs.Pool.{Nodes, is_aside}
use Rattle.gs_tree.specs.Tree.{leaf}
use Rattle.gs_catalogue.specs.declared.versions.GraphVersion.{GraphVersion}
use Rattle.gs_catalogue.specs.Catalogues.{GraphVersions, no_versions}
use Rattle.gs_records.specs.Records.{record_at}
use Rattle.gs_records.specs.Graphs.{current}
use Rattle.gs_records.specs.Births.{births_of}
use Rattle.gs_records.specs.Waste.{waste_in, is_opened, open_count}
use Rattle.gs_versions.specs.Pins.{Pins, unpinned}
use Rattle.gs_ledger.specs.Entries.{tree_births, lives}
use Rattle.gs_ledger.specs.Marks.{dead_at}
use Rattle.gs_ledger.specs.Ledger.{IsLedger}
use Rattle.gs_commit.proofs.LawLemmas.{empty_ledger, empty_dead}
use Rattle.gs_datasets.specs.Standing.{with_values, dataset_at, all_versions, version_tree, graph_trees, IsVersion}
use Rattle.gs_datasets.proofs.Values.{with_values-empty}
use Rattle.gs_datasets.proofs.Sizes.{none_at_all}
use Rattle.gs_tree_store.specs.declared.books.Books.{Books}
use Rattle.gs_tree_store.specs.declared.books.Seat.TheVariants.{Idle}
use Rattle.gs_tree_store.specs.declared.stores.TreeStore.TheInside.{Inside}
use Rattle.gs_tree_store.specs.Books.{graphs_of, dataset_of, seat_view_by, upload_tree, read_trees, is_reading, IsSeat, HasItsVersion}
use Rattle.gs_tree_store.specs.Births.{upload_births}
use Rattle.gs_tree_store.specs.Opened.{own_record, own_count, own_record_at, HaveRecords}
use Rattle.gs_tree_store.specs.Kept.{shown_of, IsKept}

-- no graph has no tree
no_trees : (p : Nodes) → All (λ t. t ≡ leaf) (graph_trees p no_versions)
no_trees p =
    let none : fin.entries (no_versions.named) ≡ [] = nil_from_length _ (sym (fin.len-entries no_versions.named) ∙ fin.len-empty name_cmp GraphVersion) in
    All-cons (λ t. t ≡ leaf) leaf (map (version_tree p) (fin.values no_versions.named)) refl
    (subst (λ (es : List (List ℕ × GraphVersion)). All (λ t. t ≡ leaf) (map (version_tree p) (map (λ e. e.1) es))) (sym none) (All-nil (λ t. t ≡ leaf)))

idle_at : (n k : ℕ) → get_or (replicate n Idle) k Idle ≡ Idle
idle_at zero k = refl
idle_at (suc n) zero = refl
idle_at (suc n) (suc k) = idle_at n k

-- idle seats have no records
none_open : (n k m : ℕ) → own_record_at (replicate n Idle) k ≡ Some m → ⊥
none_open n k m e = none-some m (sym (ap own_record (idle_at n k)) ∙ e)

none_counted : (n : ℕ) → sum_by own_count (replicate n Idle) ≡ 0
none_counted zero = refl
none_counted (suc n) = omega (arith, sum_by-cons own_count Idle (replicate n Idle), none_counted n)

none_have : (b : Books) (n : ℕ) → b.records.records ≡ [] → HaveRecords b (replicate n Idle)
none_have b n none = record {
  open_now = λ k m e. absurd (none_open n k m e);
  apart = λ j k m e f. absurd (none_open n j m e);
  all = λ m h. absurd (true≢false (sym (ap is_opened (sym (ap (λ rs. record_at rs m) none) ∙ h))));
  many = ap open_count none ∙ sym (none_counted n);
}

no_flags : (n : ℕ) → map is_some (replicate {A = Option ℕ} n None) ≡ map is_reading (replicate n Idle)
no_flags zero = refl
no_flags (suc n) = ap (λ bs. false ∷ bs) (no_flags n)

idle_pins : (a n : ℕ) → replicate {A = Option ℕ} n None ≡ map (λ (s : ℕ). None) (range_with_len a n)
idle_pins a zero = refl
idle_pins a (suc n) = ap (λ ps. None ∷ ps) (idle_pins (a + 1) n)

abbrev idle_view : ℕ → SeatView
idle_view s = phase.Idle

idle_shown : (b : Books) (a n : ℕ) → map (seat_view_by b) (replicate n Idle) ≡ map idle_view (range_with_len a n)
idle_shown b a zero = refl
idle_shown b a (suc n) = ap (λ ss. phase.Idle ∷ ss) (idle_shown b (a + 1) n)

-- what a new store is made of
pub record IsFresh (a : Inside) (seats commit : ℕ) : Type 0 where
  pub nodes : a.books.pool.nodes ≡ []
  pub marks : a.books.pool.marks ≡ []
  pub records : a.books.records.records ≡ []
  pub latest : a.books.records.latest ≡ commit
  pub write : a.books.default_write ≡ commit
  pub delete : a.books.last_delete ≡ commit
  pub limit : a.books.records.limit ≡ last_node + 1
  pub versions : a.books.versions ≡ unpinned commit seats
  pub idle : a.seats.items ≡ replicate seats Idle

module _ (a : Inside) (seats commit : ℕ) (fresh : IsFresh a seats commit) where
  no_graphs : graphs_of a.books ≡ no_versions
  no_graphs = ap current fresh.records

  no_graph_trees : All (λ t. t ≡ leaf) (graph_trees a.books.pool (graphs_of a.books))
  no_graph_trees = subst (λ (g : GraphVersions). All (λ t. t ≡ leaf) (graph_trees a.books.pool g)) (sym no_graphs) (no_trees a.books.pool)

  no_upload_trees : All (λ t. t ≡ leaf) (map (upload_tree a.books.pool) a.seats.items)
  no_upload_trees =
      let tree = upload_tree a.books.pool in
      subst (λ xs. All (λ t. t ≡ leaf) (map tree xs)) (sym fresh.idle) (All-map (λ t. t ≡ leaf) tree (replicate seats Idle) (All-replicate (λ s. tree s ≡ leaf) seats Idle refl))

  fresh_ledger : IsLedger a.books.pool a.books.versions (graph_trees a.books.pool (graphs_of a.books)) (map (upload_tree a.books.pool) a.seats.items) (map (read_trees a.books.pool a.books.records) a.seats.items) (dead_at a.books.pool)
  fresh_ledger =
      let p = a.books.pool in
      let gs = graph_trees p (graphs_of a.books) in
      let us = map (upload_tree p) a.seats.items in
      let rs = map (read_trees p a.books.records) a.seats.items in
      let pins : All (λ pin. pin ≡ None) a.books.versions.seats = subst (λ (v : Pins). All (λ pin. pin ≡ None) v.seats) (sym fresh.versions) (All-replicate (λ (pin : Option ℕ). pin ≡ None) seats None refl) in
      subst (λ ds. IsLedger p a.books.versions gs us rs ds) (sym (empty_dead p fresh.nodes)) (empty_ledger p a.books.versions gs us rs fresh.nodes fresh.marks no_graph_trees no_upload_trees pins)

  pub fresh_kept : commit ≤ last_number → is_base (string_bytes a.books.base) ≡ true → IsKept a
  fresh_kept last base =
      let p = a.books.pool in
      let terms = a.books.dict.terms in
      record {
        sound = record {
          versions = subst (λ (g : GraphVersions). All (IsVersion terms p) (all_versions g)) (sym no_graphs) (none_at_all terms p).versions;
          none_aside = ap (λ ms. count_by is_aside ms) fresh.marks;
          commit = subst (λ (v : Pins). v.commit ≤ last_number) (sym fresh.versions) last;
          latest = fresh.latest ∙ sym (ap (λ (v : Pins). v.commit) fresh.versions);
          numbers = fresh.limit;
          base = base;
          written = λ n e. absurd (none-some n (sym (ap (λ rs. (births_of rs).unnamed) fresh.records) ∙ e));
        };
        known = subst (All (IsSeat terms p a.books.records)) (sym fresh.idle) (All-replicate (IsSeat terms p a.books.records) seats Idle tt);
        pinned = ap (λ (v : Pins). map is_some v.seats) fresh.versions ∙ no_flags seats ∙ sym (ap (map is_reading) fresh.idle);
        versions = λ k. subst (HasItsVersion (get_or a.books.versions.seats k None)) (sym (ap (λ xs. get_or xs k Idle) fresh.idle ∙ idle_at seats k)) tt;
        records = subst (HaveRecords a.books) (sym fresh.idle) (none_have a.books seats fresh.records);
        ledger = fresh_ledger;
      }

  -- It has no waste,
  pub fresh_waste : (shown_of a).waste ≡ []
  fresh_waste = λ i. lives (empty_dead a.books.pool fresh.nodes i) ++ waste_in (fresh.records i)

  -- no births,
  pub fresh_births : (shown_of a).births ≡ no_births seats
  fresh_births =
      let p = a.books.pool in
      let f : GraphVersion → List ℕ = λ v. tree_births (version_tree p v) in
      let named : with_values f (graphs_of a.books).named ≡ fin.empty = ap (λ (g : GraphVersions). with_values f g.named) no_graphs ∙ with_values-empty f in
      let staged : map (upload_births a.books) a.seats.items ≡ replicate {A = List ℕ} seats [] = ap (map (upload_births a.books)) fresh.idle ∙ none_staged seats in
      λ i. record { unnamed = f (no_graphs i).unnamed; named = named i; staged = staged i }
    where
      none_staged : (n : ℕ) → map (upload_births a.books) (replicate n Idle) ≡ replicate {A = List ℕ} n []
      none_staged zero = refl
      none_staged (suc n) = ap (λ xs. [] ∷ xs) (none_staged n)

  -- shows what the empty history says,
  pub fresh_view : (shown_of a).view ≡ view_of (record { seats = seats; setting = record { base = string_bytes a.books.base; limits = a.books.limits }; request = a.books.request; commit = commit }) []
  fresh_view =
      let dataset : dataset_of a.books ≡ empty_dataset = ap (dataset_at a.books.dict.terms a.books.pool) no_graphs ∙ (none_at_all a.books.dict.terms a.books.pool).dataset in
      let last : a.books.versions.commit ≡ commit = ap (λ (v : Pins). v.commit) fresh.versions in
      let shown : map (seat_view_by a.books) a.seats.items ≡ map idle_view (range_with_len 0 seats) = ap (map (seat_view_by a.books)) fresh.idle ∙ idle_shown a.books 0 seats in
      λ i. record { totals = record { setting = record { base = string_bytes a.books.base; limits = a.books.limits }; dataset = dataset i; request = sym (add-zero a.books.request) i; commit = last i; last_writes = record { unnamed = fresh.write i; named = (births_of (fresh.records i)).named; removed = fresh.delete i } }; seats = shown i }

  -- and has no pins
  pub fresh_pins : (start : Start) → start.seats ≡ seats → a.books.versions.seats ≡ pinned_of start []
  fresh_pins start same = ap (λ (v : Pins). v.seats) fresh.versions ∙ ap (λ n. replicate {A = Option ℕ} n None) (sym same) ∙ idle_pins 0 start.seats
