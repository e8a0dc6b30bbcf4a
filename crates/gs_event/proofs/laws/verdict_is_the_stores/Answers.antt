use Rattle.gs_event.proofs.VerdictLemmas.{decided}
use Rattle.gs_event.proofs.laws.verdict_is_the_stores.Goals as goal

pub returns : goal.returns
returns c = decided
