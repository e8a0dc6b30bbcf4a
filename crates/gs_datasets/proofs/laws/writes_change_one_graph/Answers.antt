use Rattle.gs_datasets.proofs.Writing.{one_is_set, name_is_taken, all_stay, one_is_apart}
use Rattle.gs_datasets.proofs.laws.writes_change_one_graph.Goals as goal

pub returns-clause-set : goal.returns-clause-set
returns-clause-set c = one_is_set

pub returns-clause-take : goal.returns-clause-take
returns-clause-take c = name_is_taken

pub returns-clause-stay : goal.returns-clause-stay
returns-clause-stay c = all_stay

pub returns-clause-parts : goal.returns-clause-parts
returns-clause-parts c = one_is_apart
