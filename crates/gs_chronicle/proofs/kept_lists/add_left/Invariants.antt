use Rattle.std.proofs.Common.{◌≡◌, ◌++◌, length}
use Rattle.gs_packed_triples.specs.Triples.{triples_left}
use Rattle.gs_chronicle.proofs.kept_lists.add_left.Given as goal

abbrev pub invariant-loop-triple : goal.invariant-loop-triple
invariant-loop-triple l = l.triples.items ++ triples_left l.left ≡ l.initial.triples.items ++ triples_left l.fn.left

abbrev pub decreases-loop-triple : goal.decreases-loop-triple
decreases-loop-triple l = length (triples_left l.left)
