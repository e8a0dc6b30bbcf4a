use Rattle.gs_talk.proofs.LogLemmas.{rests_idle}
use Rattle.gs_talk.proofs.laws.seat_rests_idle.Goals as goal

pub returns : goal.returns
returns c = rests_idle
