use Rattle.std.proofs.Common.{◌≡◌, ◌++◌, map, take, drop}
use Rattle.gs_triple_lists.specs.Kept.{renumbered_by}
use Rattle.gs_triple_lists.proofs.lists.renumber.Given as goal

abbrev pub invariant-loop-three : goal.invariant-loop-three
invariant-loop-three l = l.threes ≡ map (renumbered_by l.numbers) (take l.three-index l.fn.threes) ++ drop l.three-index l.fn.threes
