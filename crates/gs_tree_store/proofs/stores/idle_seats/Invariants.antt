use Rattle.std.proofs.Common.{◌≡◌, replicate}
use Rattle.gs_tree_store.specs.declared.books.Seat.TheVariants.{Idle}
use Rattle.gs_tree_store.proofs.stores.idle_seats.Given as goal

abbrev pub invariant-loop : goal.invariant-loop
invariant-loop l = l.seats.items ≡ replicate l.counter Idle
