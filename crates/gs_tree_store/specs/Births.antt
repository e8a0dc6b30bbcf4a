-- The births of the nodes of graphs and of uploads. No public clause cites this module.
use Rattle.std.specs.Prelude.{ℕ, List}
use Rattle.gs_term.specs.declared.names.Target.{Target}
use Rattle.gs_ledger.specs.Entries.{tree_births}
use Rattle.gs_datasets.specs.Standing.{target_tree}
use Rattle.gs_tree_store.specs.declared.books.Books.{Books}
use Rattle.gs_tree_store.specs.declared.books.Seat.{Seat}
use Rattle.gs_tree_store.specs.Books.{graphs_of, upload_tree}

-- those of the tree of a target's graph, none where it is missing
abbrev pub graph_births : Books → Target → List ℕ
graph_births b t = tree_births (target_tree b.pool (graphs_of b) t)

-- and of the tree of a seat's upload
abbrev pub upload_births : Books → Seat → List ℕ
upload_births b s = tree_births (upload_tree b.pool s)
