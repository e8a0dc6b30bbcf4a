use Rattle.gs_pass.proofs.ClaimLemmas.{backed}
use Rattle.gs_pass.proofs.stamp_logs.StampLog.close.Goals as goal

pub returns-clause-backed : goal.returns-clause-backed
returns-clause-backed g c =
    let p = c.args.pass in
    backed _ p.record.seat _ p.record.receipts.items p.backed c.compare.ensures.stand p.own p.rise
