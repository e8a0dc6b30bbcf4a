use Rattle.std.proofs.Common.{length}
use Rattle.gs_quads_tests.proofs.reads.+are_of_trees.Given as goal

abbrev pub decreases-are_of_trees : goal.decreases-are_of_trees
decreases-are_of_trees l = length l.numbers.now
