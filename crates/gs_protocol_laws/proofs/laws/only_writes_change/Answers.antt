use Rattle.gs_protocol_laws.proofs.UnchangedLemmas.{only_writes, only_writes_state, unwritten, heads_agree}
use Rattle.gs_protocol_laws.proofs.laws.only_writes_change.Goals as goal

pub returns-clause-others : goal.returns-clause-others
returns-clause-others c = only_writes

pub returns-clause-state : goal.returns-clause-state
returns-clause-state c = only_writes_state

pub returns-clause-unwritten : goal.returns-clause-unwritten
returns-clause-unwritten c = unwritten

pub returns-clause-heads : goal.returns-clause-heads
returns-clause-heads c = heads_agree
