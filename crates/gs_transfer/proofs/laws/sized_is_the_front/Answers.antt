use Rattle.gs_transfer.proofs.StaysLemmas.{sized-front}
use Rattle.gs_transfer.proofs.laws.sized_is_the_front.Goals as goal

pub returns : goal.returns
returns c = sized-front
