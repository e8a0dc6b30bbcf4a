use Rattle.gs_keys.proofs.RootLemmas.{set_kept}
use Rattle.gs_keys.proofs.laws.set_outlasts_new_terms.Goals as goal

pub returns : goal.returns
returns c = set_kept
