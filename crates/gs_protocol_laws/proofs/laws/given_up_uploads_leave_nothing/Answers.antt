use Rattle.gs_protocol_laws.proofs.GivenUpLemmas.{open_leaves_nothing, leaves_nothing}
use Rattle.gs_protocol_laws.proofs.laws.given_up_uploads_leave_nothing.Goals as goal

pub returns-clause-open : goal.returns-clause-open
returns-clause-open c = open_leaves_nothing

pub returns-clause-given_up : goal.returns-clause-given_up
returns-clause-given_up c = leaves_nothing
