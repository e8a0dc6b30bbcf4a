use Rattle.gs_stream.proofs.StaysLemmas.{heads-stay, long-stays}
use Rattle.gs_stream.proofs.laws.settled_heads_stay.Goals as goal

pub returns-clause-heads : goal.returns-clause-heads
returns-clause-heads c = heads-stay

pub returns-clause-long : goal.returns-clause-long
returns-clause-long c = long-stays
