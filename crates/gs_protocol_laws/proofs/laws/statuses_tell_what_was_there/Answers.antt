use Rattle.gs_protocol_laws.proofs.StatusLemmas.{made_missing, changed_there, missing_missing}
use Rattle.gs_protocol_laws.proofs.laws.statuses_tell_what_was_there.Goals as goal

pub returns-clause-made : goal.returns-clause-made
returns-clause-made c = made_missing

pub returns-clause-changed : goal.returns-clause-changed
returns-clause-changed c = changed_there

pub returns-clause-missing : goal.returns-clause-missing
returns-clause-missing c = missing_missing
