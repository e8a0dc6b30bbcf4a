-- the first free number is still ahead
use Rattle.std.proofs.Common.{◌≡◌, ◌-◌, string_bytes}
use Rattle.gs_event.specs.Names.{first_free}
use Rattle.gs_plain.specs.Books.{dataset_of}
use Rattle.gs_plain.proofs.names.new_name.Given as goal

abbrev pub invariant-loop-number : goal.invariant-loop-number
invariant-loop-number l =
    first_free (dataset_of l.books.rows.items) (string_bytes l.books.base) l.request l.books.names 0
    ≡ first_free (dataset_of l.books.rows.items) (string_bytes l.books.base) l.request (l.books.names - l.number) l.number
