use Rattle.std.proofs.Common.{Some, ◌+◌, ◌*◌}
use Rattle.gs_tree.specs.Reading.{height_seen}
use Rattle.gs_tree.specs.Tree.{height_at}
use Rattle.gs_tree.proofs.reading.+walk_all.Given as goal

abbrev pub decreases-walk_all : goal.decreases-walk_all
decreases-walk_all l = 2 * height_at l.pool.now (Some l.id)

abbrev pub decreases-walk_side : goal.decreases-walk_side
decreases-walk_side l = 2 * height_seen l.pool.now l.side + 1
