-- A store whose dictionary has let terms go that no key uses: it shows the same, and what is true of it stays true.
use Rattle.std.proofs.Common.{◌≡◌, ℕ, get_or, Option, Some, None, refl, ap, sym, subst}
use Rattle.std.specs.List.{All}
use Rattle.std.proofs.lemmas.List.Elements.{All-weaker}
use Rattle.gs_event.specs.Phases as phase
use Rattle.gs_dict.specs.Numbering.{Numbered}
use Rattle.gs_pool.specs.declared.nodes.Key.{Key}
use Rattle.gs_pool.specs.Pool.{Nodes}
use Rattle.gs_keys.specs.Texts.{Terms}
use Rattle.gs_keys.specs.Roots.{AgreeOnNodes}
use Rattle.gs_keys.proofs.NodeLemmas.{graph_of_root_same}
use Rattle.gs_lines.proofs.SweepLemmas.{AgreeOnCursor, lines_from_same, cursor_same}
use Rattle.gs_datasets.specs.Standing.{all_versions, IsVersion}
use Rattle.gs_datasets.proofs.Sweeping.{keyed_same, version_same, dataset_at_same}
use Rattle.gs_records.specs.Records.{Recorded}
use Rattle.gs_quads.specs.Places.{Place}
use Rattle.gs_quads.proofs.Sweeping.{AgreeOnQuadPlace, quads_left_same, graphs_same, quad_place_same}
use Rattle.gs_tree_store.specs.declared.books.Books.{Books}
use Rattle.gs_tree_store.specs.declared.books.Seat.{Seat}
use Rattle.gs_tree_store.specs.declared.books.Seat.TheVariants.{Idle, Writing, Patching, Reading, ReadingAll}
use Rattle.gs_tree_store.specs.declared.stores.TreeStore.TheInside.{Inside}
use Rattle.gs_tree_store.specs.declared.sweeps.Swept.{Swept}
use Rattle.gs_tree_store.specs.LastWrites.{last_writes_of}
use Rattle.gs_tree_store.specs.Books.{books_setting, graphs_of, totals_of, seat_shown, seat_view_by, IsSeat, IsReadFrom, IsReadOfAll, IsSound}
use Rattle.gs_tree_store.specs.Kept.{shown_of, IsKept}
use Rattle.gs_tree_store.specs.Sweeps.{AgreeOnPlace, SweepsTerms}
use Rattle.gs_tree_store.proofs.PlaceLemmas.{same_map}

module _ (terms later : Terms) (p : Nodes) (nodes : AgreeOnNodes terms later p) (rs : Recorded) where
  -- a read of a root is one still
  read_from_same : (root : Option ℕ) (last : Option Key) → AgreeOnCursor terms later last → IsReadFrom terms p root last → IsReadFrom later p root last
  read_from_same root last g is = record { root_is = is.root_is; keyed = keyed_same terms later p nodes root is.keyed; given = cursor_same terms later last g is.given }

  -- and so is a read of all graphs
  read_of_all_same : (v : ℕ) (last : Option Place) → AgreeOnQuadPlace terms later last → IsReadOfAll terms p rs v last → IsReadOfAll later p rs v last
  read_of_all_same v last g is = record { graphs = graphs_same terms later p nodes v rs.records is.graphs; place = quad_place_same terms later v rs.records last g is.place }

  -- what is true of a seat is true still
  pub seat_same : (s : Seat) → AgreeOnPlace terms later s → IsSeat terms p rs s → IsSeat later p rs s
  seat_same Idle g is = tt
  seat_same (Writing k r v n since) g is = version_same terms later p nodes v is
  seat_same (Patching t r n since) g is = tt
  seat_same (Reading root None) g is = read_from_same root None tt is
  seat_same (Reading root (Some k)) g is = read_from_same root (Some k) g is
  seat_same (ReadingAll v None) g is = read_of_all_same v None tt is
  seat_same (ReadingAll v (Some x)) g is = read_of_all_same v (Some x) g is

  -- it shows what it showed
  pub seat_shown_same : (s : Seat) → AgreeOnPlace terms later s → seat_shown later p rs s ≡ seat_shown terms p rs s
  seat_shown_same Idle g = refl
  seat_shown_same (Writing k r v n since) g = ap (λ graph. phase.Writing k r graph since) (graph_of_root_same terms later p nodes v.root)
  seat_shown_same (Patching t r n since) g = refl
  seat_shown_same (Reading root None) g = ap (λ lines. phase.Reading lines) (lines_from_same terms later p nodes root None tt)
  seat_shown_same (Reading root (Some k)) g = ap (λ lines. phase.Reading lines) (lines_from_same terms later p nodes root (Some k) g)
  seat_shown_same (ReadingAll v None) g = ap (λ lines. phase.Reading lines) (quads_left_same terms later p nodes v rs None tt)
  seat_shown_same (ReadingAll v (Some x)) g = ap (λ lines. phase.Reading lines) (quads_left_same terms later p nodes v rs (Some x) g)

-- the books with another dictionary
abbrev pub books_with : Books → Numbered → Books
books_with b d = record b { dict = d }

-- the store with another dictionary
abbrev pub with_dict : Inside → Numbered → Inside
with_dict a d = record a { books = books_with a.books d }

module _ (b : Books) (d : Numbered) (nodes : AgreeOnNodes b.dict.terms d.terms b.pool) where
  -- the totals are the same
  pub totals_swept : totals_of (books_with b d) ≡ totals_of b
  totals_swept =
      let dataset = dataset_at_same b.dict.terms d.terms b.pool nodes (graphs_of b) in
      λ i. record { setting = books_setting b; dataset = dataset i; request = b.request; commit = b.versions.commit; last_writes = last_writes_of b }

  -- what is true of the books is true still
  pub sound_swept : IsSound b → IsSound (books_with b d)
  sound_swept h = record {
    versions = All-weaker (IsVersion b.dict.terms b.pool) (IsVersion d.terms b.pool) (version_same b.dict.terms d.terms b.pool nodes) (all_versions (graphs_of b)) h.versions;
    none_aside = h.none_aside;
    commit = h.commit;
    latest = h.latest;
    numbers = h.numbers;
    base = h.base;
    written = h.written;
  }

-- where both dictionaries say the same of the keys of all nodes, and of those at which reads stand,
module _ (a : Inside) (d : Numbered) (nodes : AgreeOnNodes a.books.dict.terms d.terms a.books.pool) (places : All (AgreeOnPlace a.books.dict.terms d.terms) a.seats.items) where
  -- the store shows the same
  pub swept_shown : shown_of (with_dict a d) ≡ shown_of a
  swept_shown =
      let b = a.books in
      let totals = totals_swept b d nodes in
      let seats = same_map (seat_view_by b) (seat_view_by (books_with b d)) a.seats.items (λ k s within. seat_shown_same b.dict.terms d.terms b.pool nodes b.records (get_or a.seats.items k s) (places k s within)) in
      λ i. record (shown_of a) { view = record { totals = totals i; seats = seats i } }

  -- and what is true of it is true still
  pub swept_kept : IsKept a → IsKept (with_dict a d)
  swept_kept kept = record {
    sound = sound_swept a.books d nodes kept.sound;
    known = λ k s within. seat_same a.books.dict.terms d.terms a.books.pool nodes a.books.records (get_or a.seats.items k s) (places k s within) (kept.known k s within);
    pinned = kept.pinned;
    versions = kept.versions;
    records = record { open_now = kept.records.open_now; apart = kept.records.apart; all = kept.records.all; many = kept.records.many };
    ledger = kept.ledger;
  }

-- so a store whose books were swept
module _ (a : Inside) (b : Books) (w : Swept) (sweeps : SweepsTerms a.books a.seats.items b) where
  -- shows the same
  pub same_shown : shown_of (record a { books = b; swept = w }) ≡ shown_of a
  same_shown =
      let P : Books → Type 0 = λ z. shown_of (record a { books = z; swept = w }) ≡ shown_of a in
      subst P (sym sweeps.rest) (swept_shown a b.dict sweeps.nodes sweeps.places)

  -- and is what it was
  pub still_kept : IsKept a → IsKept (record a { books = b; swept = w })
  still_kept kept =
      let P : Books → Type 0 = λ z. IsKept (record a { books = z; swept = w }) in
      let h = swept_kept a b.dict sweeps.nodes sweeps.places kept in
      subst P (sym sweeps.rest)
      (record {
        sound = h.sound;
        known = h.known;
        pinned = h.pinned;
        versions = h.versions;
        records = record { open_now = h.records.open_now; apart = h.records.apart; all = h.records.all; many = h.records.many };
        ledger = h.ledger;
      })
