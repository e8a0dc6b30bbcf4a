use Rattle.gs_protocol_laws.proofs.WriteLemmas.{puts_leave, posts_leave, creates_leave, patches_leave, deletes_leave, others_leave}
use Rattle.gs_protocol_laws.proofs.laws.writes_stay.Goals as goal

pub returns-clause-put : goal.returns-clause-put
returns-clause-put c = puts_leave

pub returns-clause-post : goal.returns-clause-post
returns-clause-post c = posts_leave

pub returns-clause-create : goal.returns-clause-create
returns-clause-create c = creates_leave

pub returns-clause-patch : goal.returns-clause-patch
returns-clause-patch c = patches_leave

pub returns-clause-delete : goal.returns-clause-delete
returns-clause-delete c = deletes_leave

pub returns-clause-others : goal.returns-clause-others
returns-clause-others c = others_leave
