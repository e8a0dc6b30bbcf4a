-- copied are those of the triples that were gone through
use Rattle.std.proofs.Common.{◌≡◌, Bool, take, map}
use Rattle.std.specs.List.{filter}
use Rattle.gs_model.specs.Triples.{RdfTriple}
use Rattle.gs_graphs.proofs.solutions.marked.Given as goal

abbrev pub invariant-loop-i : goal.invariant-loop-i
invariant-loop-i l = (test : RdfTriple → Bool) → l.marks ≡ map test l.triples → l.found.items ≡ filter test (take l.i l.triples)
