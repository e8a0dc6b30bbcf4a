use Rattle.gs_automaton.proofs.RunLemmas.{stays-label}
use Rattle.gs_automaton.proofs.fronts.label.Goals as goal

pub open_ended_run-requires-clause-stays : goal.open_ended_run-requires-clause-stays
open_ended_run-requires-clause-stays c = stays-label
