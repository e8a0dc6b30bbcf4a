use Rattle.gs_records.proofs.Counting.{new_kept}
use Rattle.gs_records.proofs.records.Records.new.Goals as goal

pub invariant_of-result : goal.invariant_of-result
invariant_of-result c = new_kept c.new.result c.in_ok-pool.pool c.args.commit c.new.ensures c.in_ok-pool.ensures.nodes c.in_ok-pool.ensures.marks
