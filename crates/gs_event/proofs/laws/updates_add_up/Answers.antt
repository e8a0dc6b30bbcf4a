use Rattle.gs_event.proofs.SizeLemmas.{adds_up, goes_one_way}
use Rattle.gs_event.proofs.laws.updates_add_up.Goals as goal

pub returns-clause-sum : goal.returns-clause-sum
returns-clause-sum c = adds_up

pub returns-clause-one_way : goal.returns-clause-one_way
returns-clause-one_way c = goes_one_way
