use Rattle.std.proofs.Common.{length}
use Rattle.gs_joins.proofs.kept.+stand.Given as goal

abbrev pub decreases-stand : goal.decreases-stand
decreases-stand l = length l.order.now
