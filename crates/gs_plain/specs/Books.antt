-- What the rows and the seats of a plain store show. No public clause cites this module.
use Rattle.std.specs.Prelude.{◌≡◌, ℕ, ◌<◌, ◌+◌, ◌≤◌, Bool, true, false, List, [], Option, Some, None, is_some, drop, length, IfSome, if◌then◌else◌, string_bytes}
use Rattle.std.specs.List.{fold, slice_get}
use Rattle.gs_model.specs.Graphs.{Graph, lines_of, size_of}
use Rattle.gs_model.specs.Bases.{is_base}
use Rattle.gs_model.specs.Limits.{last_node}
use Rattle.gs_term.specs.declared.names.Target.{Target}
use Rattle.gs_term.specs.declared.names.Target.TheVariants.{Default, Named}
use Rattle.gs_event.specs.declared.verdicts.Holdings.{Holdings}
use Rattle.gs_event.specs.declared.verdicts.Change.{Change}
use Rattle.gs_event.specs.declared.verdicts.Verdict.{Verdict}
use Rattle.gs_event.specs.Datasets.{Dataset, empty_dataset, graph_at, with_graph, without_graph, quads_of, size_at, triples_in, names_in}
use Rattle.gs_event.specs.Names.{new_name}
use Rattle.gs_event.specs.Operations.{Setting}
use Rattle.gs_event.specs.Phases as phase
use Rattle.gs_event.specs.Views.{Totals, SeatView}
use Rattle.gs_event.specs.Verdicts.{DecidesStore, DecidesChange, holdings_of, place_in, verdict_of}
use Rattle.gs_plain.specs.declared.books.Row.{Row}
use Rattle.gs_plain.specs.declared.books.Books.{Books}
use Rattle.gs_plain.specs.declared.books.Seat.{Seat}
use Rattle.gs_plain.specs.declared.books.Seat.TheVariants.{Idle, Writing, Patching, Reading, ReadingAll}
use Rattle.gs_plain.specs.Past.{dataset_at, AreBy}
use Rattle.gs_plain.specs.LastWrites.{last_writes_of}

-- each row is a write, and an ended one a removal: the newest row of a target is its graph
abbrev pub after_row : Dataset → Row → Dataset
after_row m row = if is_some row.ended then without_graph m row.target else with_graph m row.target row.graph

-- the dataset after all of these rows, from an empty one
abbrev pub dataset_of : List Row → Dataset
dataset_of rows = fold (λ m row. after_row m row) empty_dataset rows

-- the lines of a row's graph, none where there is no row
abbrev pub lines_of_row : Option Row → List (List ℕ)
lines_of_row None = []
lines_of_row (Some row) = lines_of row.graph

-- the lines of the row of this number, none where there is no such row
abbrev pub row_lines : List Row → Option ℕ → List (List ℕ)
row_lines rows None = []
row_lines rows (Some i) = lines_of_row (slice_get rows i)

-- a seat as it is seen: a read is the lines of its row, or of the dataset as it was at its pin, after those that were given
abbrev pub seat_shown : List Row → Seat → SeatView
seat_shown rows Idle = phase.Idle
seat_shown rows (Writing k r g since) = phase.Writing k r g since
seat_shown rows (Patching t r since) = phase.Patching t r since
seat_shown rows (Reading row given pin) = phase.Reading (drop given (row_lines rows row))
seat_shown rows (ReadingAll given pin) = phase.Reading (drop given (quads_of (dataset_at pin rows)))

-- the base and the limits of the books
abbrev pub books_setting : Books → Setting
books_setting b = record { base = string_bytes b.base; limits = b.limits }

-- the setting, the dataset, the numbers given out and those of the last writes
abbrev pub totals_of : Books → Totals
totals_of b = record {
  setting = books_setting b;
  dataset = dataset_of b.rows.items;
  request = b.request;
  commit = b.commit;
  last_writes = last_writes_of b;
}

-- a target's graph, where it is not missing
abbrev pub graph_now : Books → Target → Option Graph
graph_now b t = graph_at (dataset_of b.rows.items) t

-- how many triples a target's graph has, none where it is missing
abbrev pub size_now : Books → Target → ℕ
size_now b t = size_at (dataset_of b.rows.items) t

-- the name that is made up for the request of this number
abbrev pub name_for : Books → ℕ → List ℕ
name_for b request = new_name (string_bytes b.base) (dataset_of b.rows.items) request

-- what the books hold before a write
abbrev pub held_by : Books → Holdings
held_by b = holdings_of (books_setting b) (dataset_of b.rows.items) b.commit

-- what becomes of a write that changes its target so
abbrev pub verdict_by : Books → Target → Change → Verdict
verdict_by b t x = verdict_of (held_by b) (place_in (dataset_of b.rows.items) t) x

-- this becomes of a write that makes g the target's graph, and may create it
abbrev pub DecidesBy : Books → Target → Graph → Verdict → Type 0
DecidesBy b t g verdict = DecidesStore (books_setting b) (dataset_of b.rows.items) b.commit t g verdict

-- this becomes of a write that makes g the target's graph, where it has one
abbrev pub ChangesBy : Books → Target → Graph → Verdict → Type 0
ChangesBy b t g verdict = DecidesChange (books_setting b) (dataset_of b.rows.items) b.commit t g verdict

-- whether the seat has an open upload or an open patch, whose commit may make a row
abbrev pub will_commit : Seat → Bool
will_commit (Writing k r g since) = true
will_commit (Patching t r since) = true
will_commit s = false

-- how many triples the seat's open upload has
abbrev pub staged_by : Seat → ℕ
staged_by Idle = 0
staged_by (Writing k r g since) = size_of g
staged_by (Patching t r since) = 0
staged_by (Reading row given pin) = 0
staged_by (ReadingAll given pin) = 0

-- the last commit number at the pin of the seat's read
abbrev pub seat_pin : Seat → Option ℕ
seat_pin (Reading row given pin) = Some pin
seat_pin (ReadingAll given pin) = Some pin
seat_pin s = None

-- whether the seat reads all graphs
abbrev pub is_of_all : Seat → Bool
is_of_all (ReadingAll given pin) = true
is_of_all s = false

-- the most nodes: their numbers begin at 0
abbrev pub most_nodes : ℕ
most_nodes = last_node + 1

-- at this last commit number, a read's row is among these; and the dataset that one of all graphs reads is no later
abbrev pub IsKnown : ℕ → List Row → Seat → Type 0
IsKnown commit rows (Reading row given pin) = IfSome row (λ i. i < length rows)
IsKnown commit rows (ReadingAll given pin) = (pin ≤ commit) × (triples_in (dataset_at pin rows) ≤ most_nodes)
IsKnown commit rows s = Unit {0}

-- from this last commit number on, each row that was there has the lines that it had, and the past is as it was
pub record KeepsRows (commit : ℕ) (old new : List Row) : Type 0 where
  pub grows : length old ≤ length new
  pub same : (i : ℕ) → i < length old → lines_of_row (slice_get new i) ≡ lines_of_row (slice_get old i)
  pub past : (v : ℕ) → v ≤ commit → dataset_at v new ≡ dataset_at v old

-- whether the target is the default graph
abbrev pub is_default : Target → Bool
is_default Default = true
is_default (Named n) = false

-- a node's number is left for each triple, with g in the place of the target's graph
abbrev pub HasNodesFor : Books → Target → Graph → Type 0
HasNodesFor b t g = b.triples + b.staged + size_of g ≤ size_now b t + most_nodes

-- the counts are right and leave a node's number for each triple, no row is of a later commit, and the base is one
pub record IsCounted (b : Books) : Type 0 where
  pub triples : b.triples ≡ triples_in (dataset_of b.rows.items)
  pub names : b.names ≡ names_in (dataset_of b.rows.items)
  pub few : b.triples + b.staged ≤ most_nodes
  pub dated : AreBy b.commit b.rows.items
  pub base : is_base (string_bytes b.base) ≡ true
