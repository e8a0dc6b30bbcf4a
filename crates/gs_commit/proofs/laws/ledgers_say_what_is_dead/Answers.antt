use Rattle.gs_commit.proofs.DeadLemmas.{dead_at_said}
use Rattle.gs_commit.proofs.laws.ledgers_say_what_is_dead.Goals as goal

pub returns : goal.returns
returns c = dead_at_said
