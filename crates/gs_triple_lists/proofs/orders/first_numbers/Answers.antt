use Rattle.std.proofs.Common.{arith}
use Rattle.std.proofs.lemmas.Grind.{common_steps}
use Rattle.gs_triple_lists.proofs.RankLemmas.{range_more}
use Rattle.gs_triple_lists.proofs.orders.first_numbers.Goals as goal

pub loop-number-preserved : goal.loop-number-preserved
loop-number-preserved c = grind (arith, common_steps, range_more c.loop-number.number)
