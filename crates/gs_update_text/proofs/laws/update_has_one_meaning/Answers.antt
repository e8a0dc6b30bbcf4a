use Rattle.gs_update_text.proofs.ReadLemmas.{update_once}
use Rattle.gs_update_text.proofs.laws.update_has_one_meaning.Goals as goal

pub returns : goal.returns
returns c = update_once
