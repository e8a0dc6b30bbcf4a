use Rattle.gs_datasets.proofs.Lists.{out_of_place, into_place}
use Rattle.gs_datasets.proofs.laws.trees_go_by_place.Goals as goal

pub returns-clause-out : goal.returns-clause-out
returns-clause-out c = out_of_place

pub returns-clause-into : goal.returns-clause-into
returns-clause-into c = into_place
