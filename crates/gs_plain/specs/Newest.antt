-- The newest row of a target. No public clause cites this module.
use Rattle.std.specs.Prelude.{◌≡◌, ℕ, ◌<◌, ◌||◌, Bool, true, false, List, [], ◌∷◌, ◌++◌, Option, Some, None, is_some, IfSome, length}
use Rattle.std.specs.Str.{bytes_eq}
use Rattle.std.specs.List.{slice_get}
use Rattle.gs_model.specs.Graphs.{Graph}
use Rattle.gs_term.specs.declared.names.Target.{Target}
use Rattle.gs_term.specs.declared.names.Target.TheVariants.{Default, Named}
use Rattle.gs_event.specs.Datasets.{empty_dataset, graph_at, is_there, lines_at}
use Rattle.gs_plain.specs.declared.books.Row.{Row}
use Rattle.gs_plain.specs.Books.{dataset_of, row_lines, is_default}

-- as `==` of targets answers
abbrev pub target_eq : Target → Target → Bool
target_eq Default Default = true
target_eq (Named a) (Named b) = bytes_eq a b
target_eq t u = false

-- the graph of a row, if there is a row
abbrev pub graph_of_row : Option Row → Option Graph
graph_of_row None = None
graph_of_row (Some row) = Some row.graph

-- the graph that the row says, or that of a dataset without rows
abbrev pub graph_by : List Row → Target → Option ℕ → Option Graph
graph_by rows t None = graph_at empty_dataset t
graph_by rows t (Some i) = graph_of_row (slice_get rows i)

-- none of these rows is of this target
abbrev pub AreOthers : Target → List Row → Type 0
AreOthers t [] = Unit {0}
AreOthers t (r ∷ rs) = (target_eq r.target t ≡ false) × AreOthers t rs

-- row i is of this target and is not ended, and none after it is of this target
pub record IsLastRow (rows : List Row) (t : Target) (i : ℕ) : Type 0 where
  pub before : List Row
  pub row : Row
  pub later : List Row
  pub parts : rows ≡ before ++ row ∷ later
  pub place : i ≡ length before
  pub same : target_eq row.target t ≡ true
  pub stays : row.ended ≡ None
  pub others : AreOthers t later

-- the row of a target that says its graph, if one does
pub record NewestRow (rows : List Row) (t : Target) (found : Option ℕ) : Type 0 where
  pub graph : graph_at (dataset_of rows) t ≡ graph_by rows t found
  pub lines : row_lines rows found ≡ lines_at (dataset_of rows) t
  pub there : (is_default t || is_some found) ≡ is_there (dataset_of rows) t
  pub within : IfSome found (λ i. i < length rows)
  pub last : IfSome found (IsLastRow rows t)
