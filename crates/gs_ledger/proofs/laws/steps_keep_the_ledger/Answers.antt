use Rattle.gs_ledger.proofs.Orders.{reorder_ledger}
use Rattle.gs_ledger.proofs.PutSteps.{put_ledger, cancel_ledger}
use Rattle.gs_ledger.proofs.PinSteps.{pin_ledger, unpin_ledger}
use Rattle.gs_ledger.proofs.WriteSteps.{post_ledger, stage_ledger}
use Rattle.gs_ledger.proofs.laws.steps_keep_the_ledger.Goals as goal

pub returns-clause-order : goal.returns-clause-order
returns-clause-order c = reorder_ledger

pub returns-clause-put : goal.returns-clause-put
returns-clause-put c = put_ledger

pub returns-clause-cancel : goal.returns-clause-cancel
returns-clause-cancel c = cancel_ledger

pub returns-clause-copy : goal.returns-clause-copy
returns-clause-copy c = post_ledger

pub returns-clause-stage : goal.returns-clause-stage
returns-clause-stage c = stage_ledger

pub returns-clause-pin : goal.returns-clause-pin
returns-clause-pin c = pin_ledger

pub returns-clause-unpin : goal.returns-clause-unpin
returns-clause-unpin c = unpin_ledger
