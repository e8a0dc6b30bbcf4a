use Rattle.std.proofs.Common.{◌+◌, ◌-◌}
use Rattle.gs_tree.specs.Tree.{height_at}
use Rattle.gs_tree.proofs.balance.+join.Given as goal

abbrev pub decreases-join : goal.decreases-join
decreases-join l = (height_at l.pool.now l.left - height_at l.pool.now l.right) + (height_at l.pool.now l.right - height_at l.pool.now l.left)
