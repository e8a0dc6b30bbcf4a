use Rattle.std.proofs.Common.{subst}
use Rattle.gs_tree_store.specs.Sweeps.{IsMarkedPlace}
use Rattle.gs_tree_store.proofs.PlaceMarkLemmas.{more_places, whole_places}
use Rattle.gs_tree_store.proofs.sweeps.mark_places.Goals as goal

pub loop-seat-preserved : goal.loop-seat-preserved
loop-seat-preserved c =
    let new = c.mark_place.new.marks in
    let here = subst (IsMarkedPlace new) c.seat-item.is c.mark_place.ensures.marked in
    more_places c.args.seats.now c.loop-seat.seat-index c.args.marks.now c.loop-seat.marks new c.seat-item.result c.loop-seat-test.true c.loop-seat.invariant c.mark_place.ensures.kept here

pub returns-clause-marked : goal.returns-clause-marked
returns-clause-marked c = whole_places c.args.seats.now c.loop-seat.seat-index c.args.marks.now c.loop-seat.marks c.loop-seat-test.false c.loop-seat.invariant
