use Rattle.gs_transfer.proofs.StaysLemmas.{stays-whole, stays-faulty}
use Rattle.gs_transfer.proofs.laws.settled_stays.Goals as goal

pub returns : goal.returns
returns c = record { whole = stays-whole; faulty = stays-faulty }
