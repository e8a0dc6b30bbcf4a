use Rattle.std.proofs.Common.{length}
use Rattle.gs_chronicle.proofs.uploads.Upload.leave_to.Given as goal

abbrev pub decreases-loop-list : goal.decreases-loop-list
decreases-loop-list l = length l.lists.items
