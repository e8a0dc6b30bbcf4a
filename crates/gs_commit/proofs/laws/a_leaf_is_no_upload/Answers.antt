use Rattle.gs_commit.proofs.LawLemmas.{leaf_upload}
use Rattle.gs_commit.proofs.laws.a_leaf_is_no_upload.Goals as goal

pub returns : goal.returns
returns c = leaf_upload
