-- What a write makes of the books: a new version of its target, or an end to the newest. No public clause cites this
-- module.
use Rattle.std.specs.Prelude.{◌≡◌, ℕ, ◌+◌, ◌≤◌, List, Some, vec_len, vec_capacity, string_bytes}
use Rattle.std.specs.List.{slice_get, slice_set}
use Rattle.gs_model.specs.Graphs.{Graph, size_of}
use Rattle.gs_term.specs.declared.names.Target.{Target}
use Rattle.gs_event.specs.Datasets.{with_graph, without_graph, size_at, triples_in, names_in}
use Rattle.gs_event.specs.Conditions.{with_write, with_delete}
use Rattle.gs_plain.specs.declared.books.Row.{Row}
use Rattle.gs_plain.specs.declared.books.Books.{Books}
use Rattle.gs_plain.specs.Books.{dataset_of, KeepsRows}
use Rattle.gs_plain.specs.Past.{AreBy}
use Rattle.gs_plain.specs.LastWrites.{last_writes_of}

-- what is kept of the books by a write: all but the dataset, its counts, the commit number and those of the last writes. No row
-- is of a later commit
pub record KeepsBooks (old new : Books) : Type 0 where
  pub rows : KeepsRows old.commit old.rows.items new.rows.items
  pub staged : new.staged ≡ old.staged
  pub request : new.request ≡ old.request
  pub commit : new.commit ≡ old.commit + 1
  pub base : string_bytes new.base ≡ string_bytes old.base
  pub limits : new.limits ≡ old.limits
  pub dated : AreBy new.commit new.rows.items
  pub room : vec_capacity new.rows ≡ vec_capacity old.rows

-- the graph is now the newest version of its target, under the next commit number
pub record PutsVersion (old new : Books) (t : Target) (g : Graph) : Type 0 where
  pub dataset : dataset_of new.rows.items ≡ with_graph (dataset_of old.rows.items) t g
  pub kept : KeepsBooks old new
  pub triples : new.triples ≡ triples_in (dataset_of new.rows.items)
  pub moved : new.triples + size_at (dataset_of old.rows.items) t ≡ old.triples + size_of g
  pub names : new.names ≡ names_in (dataset_of new.rows.items)
  pub last_writes : last_writes_of new ≡ with_write (last_writes_of old) (old.commit + 1) t
  pub one_more : vec_len new.rows ≡ vec_len old.rows + 1

-- the row, marked as ended by this commit
abbrev pub ended_row : ℕ → Row → Row
ended_row commit row = record { target = row.target; graph = row.graph; birth = row.birth; ended = Some commit }

-- row i, if there is one, is now marked as ended by this commit, and the other rows are as they were
abbrev pub EndsRow : List Row → List Row → ℕ → ℕ → Type 0
EndsRow old new i commit = (row : Row) → slice_get old i ≡ Some row → new ≡ slice_set old i (ended_row commit row)

-- the target has no graph now, or an empty one where it is the default graph
pub record EndsVersion (old new : Books) (t : Target) : Type 0 where
  pub dataset : dataset_of new.rows.items ≡ without_graph (dataset_of old.rows.items) t
  pub kept : KeepsBooks old new
  pub triples : new.triples ≡ triples_in (dataset_of new.rows.items)
  pub fewer : new.triples ≤ old.triples
  pub names : new.names ≡ names_in (dataset_of new.rows.items)
  pub last_writes : last_writes_of new ≡ with_delete (last_writes_of old) (old.commit + 1) t
  pub as_many : vec_len new.rows ≡ vec_len old.rows
