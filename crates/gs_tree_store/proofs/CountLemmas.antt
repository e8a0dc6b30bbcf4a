-- The nodes and records in use of a kept store, and the triples of its graphs.
use Rattle.std.proofs.Common.{◌≡◌, ◌≤◌, ℕ, ◌+◌, cond, List, [], ◌∷◌, map, length, length-append, refl, sym, ap, ◌∙◌, arith}
use Rattle.std.specs.List.{All, sum_by}
use Rattle.std.specs.FinMap as fin
use Rattle.std.proofs.lemmas.List.{length-map}
use Rattle.std.proofs.lemmas.List.Elements.{All-head, All-tail}
use Rattle.std.proofs.lemmas.List.Sums.{sum_by-cons}
use Rattle.gs_event.specs.Datasets.{triples_in, records_in}
use Rattle.gs_event.specs.Views.{SeatView}
use Rattle.gs_event.specs.Waste.{Shown, held_at, held_in, nodes_in}
use Rattle.gs_pool.specs.Pool.{Nodes, in_use}
use Rattle.gs_tree.specs.Tree.{Tree, keys, tree_at}
use Rattle.gs_keys.specs.Texts.{Terms, triple_at}
use Rattle.gs_keys.proofs.KeyLemmas.{triples_of_keys}
use Rattle.gs_catalogue.specs.declared.versions.GraphVersion.{GraphVersion}
use Rattle.gs_catalogue.specs.Catalogues.{GraphVersions, triple_count}
use Rattle.gs_ledger.specs.Entries.{keys_in}
use Rattle.gs_ledger.specs.Marks.{dead_at, waste_at}
use Rattle.gs_ledger.proofs.Counts.{nodes_counted}
use Rattle.gs_records.specs.Waste.{waste_in, used_count}
use Rattle.gs_records.specs.Uses.{records_of_graphs, AreUsed}
use Rattle.gs_datasets.specs.Standing.{dataset_at, all_versions, version_tree, graph_trees, IsVersion}
use Rattle.gs_datasets.proofs.Sizes.{triples_in-is, names_in-is}
use Rattle.gs_records.specs.Records.{Recorded}
use Rattle.gs_tree_store.specs.declared.books.Seat.{Seat}
use Rattle.gs_tree_store.specs.declared.books.Seat.TheVariants.{Idle, Writing, Patching, Reading, ReadingAll}
use Rattle.gs_tree_store.specs.declared.stores.TreeStore.TheInside.{Inside}
use Rattle.gs_tree_store.specs.Books.{graphs_of, seat_shown, upload_tree, read_trees, IsSeat}
use Rattle.gs_tree_store.specs.Opened.{own_count}
use Rattle.gs_tree_store.specs.Kept.{shown_of, IsKept}
use Rattle.gs_tree_store.proofs.RecordLemmas.{nothing_is}

-- nodes and records, by what they are of
all_parts : (pool used triples graphs staged open_now dead ended : ℕ) → pool ≡ triples + staged + dead → used ≡ graphs + open_now + ended → pool + used ≡ triples + graphs + (staged + open_now) + (dead + ended)
all_parts pool used triples graphs staged open_now dead ended x y = omega (arith, x, y)

module _ (terms : Terms) (p : Nodes) where
  -- there is a record for each name, and one for a default graph that is not empty
  pub records_in-is : (g : GraphVersions) → All (IsVersion terms p) (all_versions g) → records_in (dataset_at terms p g) ≡ records_of_graphs g
  records_in-is g all =
      let own = nothing_is terms p g.unnamed (All-head (IsVersion terms p) g.unnamed (fin.values g.named) all) in
      λ i. names_in-is terms p g i + cond {A = ℕ} (sym own i) 0 1

  entries_count : (es : List (List ℕ × GraphVersion)) → All (IsVersion terms p) (map (λ e. e.1) es) → keys_in (map (version_tree p) (map (λ e. e.1) es)) ≡ sum_by (λ e. e.1.triples) es
  entries_count [] all = refl
  entries_count (e ∷ es) all =
      let rest = map (λ d. d.1) es in
      omega (
        arith,
        sum_by-cons (λ (t : Tree). length (keys t)) (version_tree p e.1) (map (version_tree p) rest),
        sum_by-cons (λ (d : List ℕ × GraphVersion). d.1.triples) e es,
        (All-head (IsVersion terms p) e.1 rest all).counted,
        entries_count es (All-tail (IsVersion terms p) e.1 rest all),
      )

  -- the trees of all versions have a key for each triple that these count
  graph_keys : (g : GraphVersions) → All (IsVersion terms p) (all_versions g) → keys_in (graph_trees p g) ≡ triple_count g
  graph_keys g all =
      let vs = fin.values g.named in
      omega (
        arith,
        sum_by-cons (λ (t : Tree). length (keys t)) (version_tree p g.unnamed) (map (version_tree p) vs),
        (All-head (IsVersion terms p) g.unnamed vs all).counted,
        entries_count (fin.entries g.named) (All-tail (IsVersion terms p) g.unnamed vs all),
      )

  seat_keys : (rs : Recorded) (s : Seat) → IsSeat terms p rs s → held_at (seat_shown terms p rs s) ≡ length (keys (upload_tree p s)) + own_count s
  seat_keys rs Idle is = refl
  seat_keys rs (Writing k r v o since) is =
      let ks = keys (tree_at p v.root) in
      ap (λ n. n + 1) (ap length (triples_of_keys terms ks is.keyed.rising is.keyed.given) ∙ length-map ks (triple_at terms))
  seat_keys rs (Patching t r o since) is = refl
  seat_keys rs (Reading root last) is = refl
  seat_keys rs (ReadingAll v last) is = refl

  -- what all seats have open: a node for each triple that was staged, and the records
  seats_hold : (rs : Recorded) (seats : List Seat) → All (IsSeat terms p rs) seats → held_in (map (seat_shown terms p rs) seats) ≡ keys_in (map (upload_tree p) seats) + sum_by own_count seats
  seats_hold rs [] all = refl
  seats_hold rs (s ∷ seats) all = omega (
    arith,
    sum_by-cons (λ (x : SeatView). held_at x) (seat_shown terms p rs s) (map (seat_shown terms p rs) seats),
    sum_by-cons (λ (t : Tree). length (keys t)) (upload_tree p s) (map (upload_tree p) seats),
    seat_keys rs s (All-head (IsSeat terms p rs) s seats all),
    sum_by-cons own_count s seats,
    seats_hold rs seats (All-tail (IsSeat terms p rs) s seats all),
  )

module _ (a : Inside) (kept : IsKept a) where
  counted : in_use a.books.pool ≡ triple_count (graphs_of a.books) + keys_in (map (upload_tree a.books.pool) a.seats.items) + length (waste_at a.books.pool)
  counted =
      let p = a.books.pool in
      let g = graphs_of a.books in
      let xs = a.seats.items in
      omega (
        arith,
        (nodes_counted p a.books.versions (graph_trees p g) (map (upload_tree p) xs) (map (read_trees p a.books.records) xs) (dead_at p) kept.ledger).nodes,
        graph_keys a.books.dict.terms p g kept.sound.versions,
      )

  -- The nodes and records in use are those of what is shown.
  pub nodes_kept : AreUsed a.books.records.records → in_use a.books.pool + used_count a.books.records.records ≡ nodes_in (shown_of a)
  nodes_kept used =
      let b = a.books in
      let terms = b.dict.terms in
      all_parts (in_use b.pool) (used_count b.records.records) (triple_count (graphs_of b)) (records_of_graphs (graphs_of b))
      (keys_in (map (upload_tree b.pool) a.seats.items)) (sum_by own_count a.seats.items) (length (waste_at b.pool)) (length (waste_in b.records.records))
      counted (used ∙ ap (λ n. records_of_graphs (graphs_of b) + n + length (waste_in b.records.records)) kept.records.many)
      ∙ (λ i.
      sym (triples_in-is terms b.pool (graphs_of b) kept.sound.versions) i
      + sym (records_in-is terms b.pool (graphs_of b) kept.sound.versions) i
      + sym (seats_hold terms b.pool b.records a.seats.items kept.known) i
      + sym (length-append (waste_at b.pool) (waste_in b.records.records)) i)

  -- the triples of all graphs are no more than these
  pub triples_few : triple_count (graphs_of a.books) ≤ in_use a.books.pool
  triples_few = omega (arith, counted)

  -- and are those of what is shown
  pub triples_kept : (s : Shown) → shown_of a ≡ s → triple_count (graphs_of a.books) ≡ triples_in s.view.totals.dataset
  triples_kept s view =
      sym (triples_in-is a.books.dict.terms a.books.pool (graphs_of a.books) kept.sound.versions) ∙ ap (λ (x : Shown). triples_in x.view.totals.dataset) view
