use Rattle.std.proofs.Common.{◌≡◌, ◌+◌, length}
use Rattle.gs_triple_lists.specs.Readers.{listed_left}
use Rattle.gs_packed_triples.specs.Room.{triples_bytes}
use Rattle.gs_packed_triples.proofs.triples.bytes_of_all.Given as goal

abbrev pub invariant-loop-triple : goal.invariant-loop-triple
invariant-loop-triple l = l.bytes + triples_bytes (listed_left l.left) ≡ triples_bytes l.fn.list.items

abbrev pub decreases-loop-triple : goal.decreases-loop-triple
decreases-loop-triple l = length (listed_left l.left)
