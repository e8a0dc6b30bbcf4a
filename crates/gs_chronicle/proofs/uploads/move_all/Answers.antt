use Rattle.std.proofs.Common.{◌∙◌, arith}
use Rattle.gs_chronicle.proofs.ListLemmas.{same_lists}
use Rattle.gs_chronicle.proofs.uploads.move_all.Goals as goal

pub loop-list-preserved : goal.loop-list-preserved
loop-list-preserved c =
    same_lists c.loop-list.lists c.loop-list.list-index c.list-item.result c.move_into.new.self (omega arith) c.move_into.ensures
    ∙ c.loop-list.invariant
