use Rattle.gs_event.proofs.SolutionLemmas.{instances_are}
use Rattle.gs_event.proofs.laws.instances_are_found.Goals as goal

pub returns : goal.returns
returns c = instances_are
