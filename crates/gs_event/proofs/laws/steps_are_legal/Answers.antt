use Rattle.gs_event.proofs.RunLemmas.{has_run}
use Rattle.gs_event.proofs.laws.steps_are_legal.Goals as goal

pub returns : goal.returns
returns c = has_run
