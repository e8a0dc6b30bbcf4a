use Rattle.gs_automaton.proofs.RunLemmas.{stays-local}
use Rattle.gs_automaton.proofs.fronts.namespace.Goals as goal

pub open_ended_run-requires-clause-stays : goal.open_ended_run-requires-clause-stays
open_ended_run-requires-clause-stays c = stays-local
