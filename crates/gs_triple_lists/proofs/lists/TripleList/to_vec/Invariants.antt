use Rattle.std.proofs.Common.{◌≡◌, ◌++◌, length}
use Rattle.gs_triple_lists.specs.Readers.{listed_left}
use Rattle.gs_triple_lists.proofs.lists.TripleList.to_vec.Given as goal

abbrev pub invariant-loop-triple : goal.invariant-loop-triple
invariant-loop-triple l = l.triples.items ++ listed_left l.left ≡ l.fn.self.items

abbrev pub decreases-loop-triple : goal.decreases-loop-triple
decreases-loop-triple l = length (listed_left l.left)
