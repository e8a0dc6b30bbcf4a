-- marked are the triples that were gone through
use Rattle.std.proofs.Common.{◌≡◌, take}
use Rattle.gs_graphs.specs.Solving.{marked_by}
use Rattle.gs_graphs.proofs.solutions.mark.Given as goal

abbrev pub invariant-loop-choice : goal.invariant-loop-choice
invariant-loop-choice l = l.marks ≡ marked_by (take l.choice-index l.choices) l.fn.marks
