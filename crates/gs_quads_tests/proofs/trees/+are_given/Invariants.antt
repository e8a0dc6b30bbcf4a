use Rattle.std.proofs.Common.{length}
use Rattle.gs_quads_tests.proofs.trees.+are_given.Given as goal

abbrev pub decreases-are_given : goal.decreases-are_given
decreases-are_given l = length l.keys.now
