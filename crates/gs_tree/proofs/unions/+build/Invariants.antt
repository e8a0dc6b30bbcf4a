use Rattle.std.proofs.Common.{length}
use Rattle.gs_tree.proofs.Halvings.{halvings}
use Rattle.gs_tree.proofs.unions.+build.Given as goal

-- so it goes 64 levels deep at most
abbrev pub decreases-build : goal.decreases-build
decreases-build l = halvings 64 (length l.run.now)
