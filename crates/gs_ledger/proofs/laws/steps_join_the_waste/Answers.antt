use Rattle.gs_ledger.proofs.Wasting.{put_joins, cancel_joins, post_joins}
use Rattle.gs_ledger.proofs.laws.steps_join_the_waste.Goals as goal

pub returns-clause-put : goal.returns-clause-put
returns-clause-put c = put_joins

pub returns-clause-cancel : goal.returns-clause-cancel
returns-clause-cancel c = cancel_joins

pub returns-clause-copy : goal.returns-clause-copy
returns-clause-copy c = post_joins
