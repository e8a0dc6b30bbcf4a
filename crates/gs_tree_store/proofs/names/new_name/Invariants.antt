-- the first free number is still ahead
use Rattle.std.proofs.Common.{◌≡◌, ◌-◌, string_bytes}
use Rattle.gs_catalogue.specs.Catalogues.{name_count}
use Rattle.gs_event.specs.Names.{first_free}
use Rattle.gs_tree_store.specs.Books.{graphs_of, dataset_of}
use Rattle.gs_tree_store.proofs.names.new_name.Given as goal

abbrev pub invariant-loop-number : goal.invariant-loop-number
invariant-loop-number l =
    first_free (dataset_of l.books) (string_bytes l.books.base) l.request (name_count (graphs_of l.books)) 0
    ≡ first_free (dataset_of l.books) (string_bytes l.books.base) l.request (name_count (graphs_of l.books) - l.number) l.number
