use Rattle.gs_model.proofs.LineLemmas.{triple_of-line_of, line_of-injective}
use Rattle.gs_model.proofs.laws.line_has_one_triple.Goals as goal

pub returns : goal.returns
returns c = record { one = triple_of-line_of; distinct = line_of-injective }
