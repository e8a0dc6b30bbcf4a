-- The graphs of a past dataset, as they are found in the rows. No public clause cites this module.
use Rattle.std.specs.Prelude.{◌≡◌, List, ℕ, Option, Some, None, map as each}
use Rattle.std.specs.Borrow.{Bor}
use Rattle.std.specs.BTreeMap.{BTreeMap}
use Rattle.std.specs.Map.Iter.{deref_pair}
use Rattle.std.specs.FinMap as map
use Rattle.std.specs.FinMap.Entries.{find}
use Rattle.gs_model.specs.Graphs.{Graph, empty_graph}
use Rattle.gs_term.specs.Names.{name_cmp}
use Rattle.gs_event.specs.Datasets.{Dataset}
use Rattle.gs_plain.specs.declared.books.Row.{Row}
use Rattle.gs_plain.specs.Past.{after_row_at}

-- a graph that was found, or an empty one
abbrev pub graph_if : Option (Bor Graph) → Graph
graph_if None = empty_graph
graph_if (Some g) = g.now

-- the graph that is found for each name is the one that it has in the dataset
abbrev pub HasNamed : BTreeMap (Bor (List ℕ)) (Bor Graph) → Dataset → Type 0
HasNamed found m = (q : List ℕ) → find name_cmp q (each deref_pair found.entries) ≡ map.get m.named q

-- where the default graph was found before a row, it is found after it, as of commit v
abbrev pub FindsDefault : ℕ → Row → Option (Bor Graph) → Option (Bor Graph) → Type 0
FindsDefault v row old new = (m : Dataset) → graph_if old ≡ m.unnamed → graph_if new ≡ (after_row_at v m row).unnamed

-- where the graphs with names were found before a row, they are found after it, as of commit v
abbrev pub FindsNamed : ℕ → Row → BTreeMap (Bor (List ℕ)) (Bor Graph) → BTreeMap (Bor (List ℕ)) (Bor Graph) → Type 0
FindsNamed v row old new = (m : Dataset) → HasNamed old m → HasNamed new (after_row_at v m row)
