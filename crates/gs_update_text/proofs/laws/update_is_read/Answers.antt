use Rattle.gs_update_text.proofs.ReadLemmas.{update_read, update_covered}
use Rattle.gs_update_text.proofs.laws.update_is_read.Goals as goal

pub returns : goal.returns
returns c = λ b r ts os. (update_read b r ts os, update_covered b r ts os)
