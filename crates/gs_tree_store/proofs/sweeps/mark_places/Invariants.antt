use Rattle.gs_tree_store.proofs.PlaceMarkLemmas.{MarkingPlaces}
use Rattle.gs_tree_store.proofs.sweeps.mark_places.Given as goal

abbrev pub invariant-loop-seat : goal.invariant-loop-seat
invariant-loop-seat l = MarkingPlaces l.seats l.seat-index l.fn.marks l.marks
