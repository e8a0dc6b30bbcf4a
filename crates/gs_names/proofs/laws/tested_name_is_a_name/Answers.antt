use Rattle.gs_names.proofs.TargetLemmas.{tested_name_is_a_name}
use Rattle.gs_names.proofs.laws.tested_name_is_a_name.Goals as goal

pub returns : goal.returns
returns c = tested_name_is_a_name
