use Rattle.gs_chronicle.proofs.ReplayLemmas.{page_after-replays}
use Rattle.gs_chronicle.proofs.laws.page_replays_on.Goals as goal

pub returns : goal.returns
returns c = λ w start n k p m d. page_after-replays w start n k p m d
