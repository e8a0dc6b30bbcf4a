use Rattle.gs_event.proofs.PinLemmas.{pinned_of-cons}
use Rattle.gs_event.proofs.laws.pinned_goes_on.Goals as goal

pub returns : goal.returns
returns c = pinned_of-cons
