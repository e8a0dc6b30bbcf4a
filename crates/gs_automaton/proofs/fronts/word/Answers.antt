use Rattle.gs_automaton.proofs.RunLemmas.{stays-word}
use Rattle.gs_automaton.proofs.fronts.word.Goals as goal

pub over_byte_and_run-scan-requires-clause-stays : goal.over_byte_and_run-scan-requires-clause-stays
over_byte_and_run-scan-requires-clause-stays c = stays-word
