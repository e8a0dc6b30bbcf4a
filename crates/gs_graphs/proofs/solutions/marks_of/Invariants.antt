-- marked is what was found, and with what is left it is all
use Rattle.std.proofs.Common.{◌≡◌, [], ◌++◌, List, length}
use Rattle.gs_model.specs.Triples.{RdfTriple}
use Rattle.gs_graphs.specs.Solving.{found_from, left_from, work_from, IsPlace, AreMarked}
use Rattle.gs_graphs.proofs.solutions.marks_of.Given as goal

abbrev pub invariant-steps : goal.invariant-steps
invariant-steps l =
    IsPlace l.triples l.patterns l.place × (length l.marks.items ≡ length l.triples)
    × ((found : List RdfTriple) × AreMarked l.triples l.marks.items found × (found ++ left_from l.triples l.patterns l.place ≡ found_from l.triples l.patterns [] []))

abbrev pub decreases-steps : goal.decreases-steps
decreases-steps l = work_from l.triples l.patterns l.place
