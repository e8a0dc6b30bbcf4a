use Rattle.gs_staging.proofs.StageLemmas.{staged_kept}
use Rattle.gs_staging.proofs.laws.staged_outlasts_new_terms.Goals as goal

pub returns : goal.returns
returns c = staged_kept
