use Rattle.std.proofs.Common.{◌≡◌, take}
use Rattle.gs_graphs.proofs.graphs.copies_of.Given as goal

abbrev pub invariant-loop-triple : goal.invariant-loop-triple
invariant-loop-triple l = l.copies.items ≡ take l.triple-index l.triples
