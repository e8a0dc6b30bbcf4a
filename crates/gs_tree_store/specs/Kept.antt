-- What a store's fields show, and what is true of them.
use Rattle.std.specs.Prelude.{◌≡◌, ℕ, ◌++◌, map, None, is_some, slice_index_or}
use Rattle.std.specs.List.{All}
use Rattle.gs_event.specs.Waste.{Shown}
use Rattle.gs_ledger.specs.Entries.{tree_births}
use Rattle.gs_ledger.specs.Marks.{waste_at}
use Rattle.gs_records.specs.Waste.{waste_in}
use Rattle.gs_datasets.specs.Standing.{with_values, version_tree}
use Rattle.gs_tree_store.specs.declared.stores.TreeStore.TheInside.{Inside}
use Rattle.gs_tree_store.specs.declared.books.Seat.TheVariants.{Idle}
use Rattle.gs_tree_store.specs.Books.{graphs_of, totals_of, seat_view_by, upload_tree, read_trees, is_reading, IsSeat, HasItsVersion, IsSound, HasLedger}
use Rattle.gs_tree_store.specs.Births.{upload_births}
use Rattle.gs_tree_store.specs.Opened.{HaveRecords}

-- the view of the books and the seats, the pins, the waste: of nodes, as the marks of the pool say, and of records; and the births of the
-- trees of current graphs and of uploads
abbrev pub shown_of : Inside → Shown
shown_of a = record {
  view = record { totals = totals_of a.books; seats = map (seat_view_by a.books) a.seats.items };
  pinned = a.books.versions.seats;
  waste = waste_at a.books.pool ++ waste_in a.books.records.records;
  births = record {
    unnamed = tree_births (version_tree a.books.pool (graphs_of a.books).unnamed);
    named = with_values (λ v. tree_births (version_tree a.books.pool v)) (graphs_of a.books).named;
    staged = map (upload_births a.books) a.seats.items;
  };
}

-- Each seat is known, a seat has a pin where it reads, and a read of all graphs that of its version; each upload and each patch has an
-- open record of its own, and the ledger has the trees of all seats.
pub record IsKept (a : Inside) : Type 0 where
  pub sound : IsSound a.books
  pub known : All (IsSeat a.books.dict.terms a.books.pool a.books.records) a.seats.items
  pub pinned : map is_some a.books.versions.seats ≡ map is_reading a.seats.items
  pub versions : (k : ℕ) → HasItsVersion (slice_index_or a.books.versions.seats k None) (slice_index_or a.seats.items k Idle)
  pub records : HaveRecords a.books a.seats.items
  pub ledger : HasLedger a.books (map (upload_tree a.books.pool) a.seats.items) (map (read_trees a.books.pool a.books.records) a.seats.items)
