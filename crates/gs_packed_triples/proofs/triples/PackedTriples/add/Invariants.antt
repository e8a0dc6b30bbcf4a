use Rattle.std.proofs.Common.{◌≡◌, ◌++◌, length}
use Rattle.gs_triple_lists.specs.Readers.{listed_left}
use Rattle.gs_packed_triples.specs.Triples.{packed_triples, HasRoomFor}
use Rattle.gs_packed_triples.proofs.triples.PackedTriples.add.Given as goal

abbrev pub invariant-loop-triple : goal.invariant-loop-triple
invariant-loop-triple l = record {
  triples : packed_triples l.self ++ listed_left l.left ≡ packed_triples l.initial.self ++ l.fn.list.items;
  room : HasRoomFor l.self (listed_left l.left);
}

abbrev pub decreases-loop-triple : goal.decreases-loop-triple
decreases-loop-triple l = length (listed_left l.left)
