-- What the books and the seats of a store over trees show, and what is true of them. No public clause cites this module.
use Rattle.std.specs.Prelude.{◌≡◌, ◌+◌, ◌<◌, ◌≤◌, ℕ, Bool, true, false, List, [], ◌∷◌, length, map, Option, Some, None, string_bytes, slice_index_or, is_some}
use Rattle.std.specs.List.{All}
use Rattle.gs_model.specs.Bases.{is_base}
use Rattle.gs_model.specs.Limits.{last_number, last_node}
use Rattle.gs_term.specs.declared.names.Target.{Target}
use Rattle.gs_event.specs.Datasets.{Dataset}
use Rattle.gs_event.specs.Operations.{Setting}
use Rattle.gs_event.specs.Phases as phase
use Rattle.gs_event.specs.Views.{Totals, SeatView}
use Rattle.gs_pool.specs.Pool.{Nodes, aside_count}
use Rattle.gs_tree.specs.Tree.{Tree, leaf, root_of, tree_at}
use Rattle.gs_keys.specs.Texts.{Terms}
use Rattle.gs_keys.specs.Roots.{graph_of_root}
use Rattle.gs_lines.specs.Pieces.{lines_from, IsCursor}
use Rattle.gs_catalogue.specs.declared.versions.GraphVersion.{GraphVersion}
use Rattle.gs_catalogue.specs.Catalogues.{GraphVersions, version_at}
use Rattle.gs_records.specs.Records.{Recorded}
use Rattle.gs_records.specs.Graphs.{current}
use Rattle.gs_quads.specs.Places.{Place, root_at, version_numbers, quads_left}
use Rattle.gs_quads.specs.Pieces.{AreGraphs, IsQuadPlace}
use Rattle.gs_ledger.specs.Marks.{dead_at}
use Rattle.gs_ledger.specs.Ledger.{IsLedger}
use Rattle.gs_datasets.specs.Standing.{dataset_at, all_versions, graph_trees, IsKeyed, IsVersion}
use Rattle.gs_tree_store.specs.declared.books.Books.{Books}
use Rattle.gs_tree_store.specs.declared.books.Seat.{Seat}
use Rattle.gs_tree_store.specs.declared.books.Seat.TheVariants.{Idle, Writing, Patching, Reading, ReadingAll}
use Rattle.gs_tree_store.specs.LastWrites.{last_writes_of, WasWritten}

-- the base and the limits of the books
abbrev pub books_setting : Books → Setting
books_setting b = record { base = string_bytes b.base; limits = b.limits }

-- the versions of the graphs of now
abbrev pub graphs_of : Books → GraphVersions
graphs_of b = current b.records.records

-- the dataset that they stand for
abbrev pub dataset_of : Books → Dataset
dataset_of b = dataset_at b.dict.terms b.pool (graphs_of b)

-- the target's graph was found to have this version, or to be missing
abbrev pub IsFound : Books → Target → Option GraphVersion → Type 0
IsFound b t found = found ≡ version_at (graphs_of b) t

-- the setting, the dataset, the numbers given out and those of the last writes
abbrev pub totals_of : Books → Totals
totals_of b = record {
  setting = books_setting b;
  dataset = dataset_of b;
  request = b.request;
  commit = b.versions.commit;
  last_writes = last_writes_of b;
}

-- a seat as it is seen: an upload is the graph of its tree, and a read the lines of its tree, or of all graphs of its version, after the
-- last that was given
abbrev pub seat_shown : Terms → Nodes → Recorded → Seat → SeatView
seat_shown terms p rs Idle = phase.Idle
seat_shown terms p rs (Writing k r v n since) = phase.Writing k r (graph_of_root terms p v.root) since
seat_shown terms p rs (Patching t r n since) = phase.Patching t r since
seat_shown terms p rs (Reading root last) = phase.Reading (lines_from terms p root last)
seat_shown terms p rs (ReadingAll v last) = phase.Reading (quads_left terms p v rs last)

-- the same, by the books
abbrev pub seat_view_by : Books → Seat → SeatView
seat_view_by b s = seat_shown b.dict.terms b.pool b.records s

-- the tree of the seat's upload, a leaf where it has none
abbrev pub upload_tree : Nodes → Seat → Tree
upload_tree p (Writing k r v n since) = tree_at p v.root
upload_tree p s = leaf

-- the trees of the graphs of version v of the dataset
abbrev pub version_trees : Nodes → Recorded → ℕ → List Tree
version_trees p rs v = map (λ n. tree_at p (root_at rs.records n)) (version_numbers v rs)

-- the trees that the seat reads: the one of its read, or those of its version, and none where it does not read
abbrev pub read_trees : Nodes → Recorded → Seat → List Tree
read_trees p rs (Reading root last) = tree_at p root ∷ []
read_trees p rs (ReadingAll v last) = version_trees p rs v
read_trees p rs s = []

-- whether the seat reads
abbrev pub is_reading : Seat → Bool
is_reading (Reading root last) = true
is_reading (ReadingAll v last) = true
is_reading s = false

-- a root and the last key given of it: the root means a tree in order, and the key's numbers have terms
pub record IsReadFrom (terms : Terms) (p : Nodes) (root : Option ℕ) (last : Option Rattle.gs_pool.specs.declared.nodes.Key.Key) : Type 0 where
  pub root_is : root_of (tree_at p root) ≡ root
  pub keyed : IsKeyed terms (tree_at p root)
  pub given : IsCursor terms last

-- version v has graphs, and the place is one of it
pub record IsReadOfAll (terms : Terms) (p : Nodes) (rs : Recorded) (v : ℕ) (last : Option Place) : Type 0 where
  pub graphs : AreGraphs terms p v rs.records
  pub place : IsQuadPlace terms v rs.records last

-- what is true of a seat: its upload is the version of a graph, and its read one of such a tree, or of all graphs of a version
abbrev pub IsSeat : Terms → Nodes → Recorded → Seat → Type 0
IsSeat terms p rs (Writing k r v n since) = IsVersion terms p v
IsSeat terms p rs (Reading root last) = IsReadFrom terms p root last
IsSeat terms p rs (ReadingAll v last) = IsReadOfAll terms p rs v last
IsSeat terms p rs s = Unit {0}

-- a read of all graphs is of the version that its seat has pinned
abbrev pub HasItsVersion : Option ℕ → Seat → Type 0
HasItsVersion pin (ReadingAll v last) = pin ≡ Some v
HasItsVersion pin s = Unit {0}

-- What is true of the books alone: there may be as many records as there are numbers of nodes, and the commit that made the record of the
-- default graph is the last write on it.
pub record IsSound (b : Books) : Type 0 where
  pub versions : All (IsVersion b.dict.terms b.pool) (all_versions (graphs_of b))
  pub none_aside : aside_count b.pool ≡ 0
  pub commit : b.versions.commit ≤ last_number
  pub latest : b.records.latest ≡ b.versions.commit
  pub numbers : b.records.limit ≡ last_node + 1
  pub base : is_base (string_bytes b.base) ≡ true
  pub written : WasWritten b.records b.default_write

-- the ledger of the books, with these trees of uploads and of reads
abbrev pub HasLedger : Books → List Tree → List (List Tree) → Type 0
HasLedger b uploads reads = IsLedger b.pool b.versions (graph_trees b.pool (graphs_of b)) uploads reads (dead_at b.pool)

-- the ledger where seat s is this one: its upload stands before those of the others
pub record HasLedgerAt (b : Books) (s : ℕ) (seat : Seat) (uploads : List Tree) (reads : List (List Tree)) : Type 0 where
  pub ledger : HasLedger b (upload_tree b.pool seat ∷ uploads) reads
  pub there : s < length reads
  pub read : slice_index_or reads s [] ≡ read_trees b.pool b.records seat

-- some trees of the other seats have a ledger with the books and this seat
pub record HasSomeLedger (b : Books) (s : ℕ) (seat : Seat) : Type 0 where
  pub uploads : List Tree
  pub reads : List (List Tree)
  pub ledger : HasLedgerAt b s seat uploads reads

-- books and one of their seats, before an action
pub record IsReady (b : Books) (s : ℕ) (seat : Seat) : Type 0 where
  pub sound : IsSound b
  pub known : IsSeat b.dict.terms b.pool b.records seat
  pub there : s < length b.versions.seats
  pub pinned : is_some (slice_index_or b.versions.seats s None) ≡ is_reading seat
  pub version : HasItsVersion (slice_index_or b.versions.seats s None) seat
  pub ledger : HasSomeLedger b s seat
