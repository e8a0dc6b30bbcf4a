use Rattle.gs_triple_lists.proofs.ListLemmas.{Moves}
use Rattle.gs_triple_lists.proofs.lists.TripleList.append.Given as goal

abbrev pub invariant-loop-triple : goal.invariant-loop-triple
invariant-loop-triple l = Moves l.fn.self.items l.fn.triples.items l.self.items l.triples.items

abbrev pub decreases-loop-triple : goal.decreases-loop-triple
decreases-loop-triple l = goal.left-loop-triple l
