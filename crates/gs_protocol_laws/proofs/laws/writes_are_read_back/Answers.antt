use Rattle.gs_protocol_laws.proofs.ReadBackLemmas.{puts_back, posts_back, creates_back, patches_back, deletes_back}
use Rattle.gs_protocol_laws.proofs.laws.writes_are_read_back.Goals as goal

pub returns-clause-put : goal.returns-clause-put
returns-clause-put c = puts_back

pub returns-clause-post : goal.returns-clause-post
returns-clause-post c = posts_back

pub returns-clause-create : goal.returns-clause-create
returns-clause-create c = creates_back

pub returns-clause-patch : goal.returns-clause-patch
returns-clause-patch c = patches_back

pub returns-clause-delete : goal.returns-clause-delete
returns-clause-delete c = deletes_back
