use Rattle.gs_event.proofs.NodeLemmas.{takes_few, gives_back}
use Rattle.gs_event.proofs.laws.steps_take_few.Goals as goal

pub returns-clause-few : goal.returns-clause-few
returns-clause-few c = takes_few

pub returns-clause-back : goal.returns-clause-back
returns-clause-back c = gives_back
