-- The dataset as it was after a commit, by the rows. No public clause cites this module.
use Rattle.std.specs.Prelude.{ℕ, ◌≤◌, nat_lt, nat_le, Bool, false, List, Option, Some, None, IfSome, if◌then◌else◌}
use Rattle.std.specs.List.{fold, AllByRecursion}
use Rattle.gs_event.specs.Datasets.{Dataset, empty_dataset, with_graph, without_graph}
use Rattle.gs_plain.specs.declared.books.Row.{Row}

-- whether that commit, if there is one, is commit v or one before it
abbrev pub is_by : ℕ → Option ℕ → Bool
is_by v None = false
is_by v (Some commit) = nat_le commit v

-- what a row made of a dataset by commit v: a row that was made later is nothing yet, and one that was ended later is not ended
abbrev pub after_row_at : ℕ → Dataset → Row → Dataset
after_row_at v m row =
    if nat_lt v row.birth then m else (if is_by v row.ended then without_graph m row.target else with_graph m row.target row.graph)

-- the dataset as it was after commit v
abbrev pub dataset_at : ℕ → List Row → Dataset
dataset_at v rows = fold (λ m row. after_row_at v m row) empty_dataset rows

-- each row was made by this commit or one before it, and an ended one was ended so
abbrev pub AreBy : ℕ → List Row → Type 0
AreBy commit rows = AllByRecursion (λ row. (row.birth ≤ commit) × IfSome row.ended (λ death. death ≤ commit)) rows
