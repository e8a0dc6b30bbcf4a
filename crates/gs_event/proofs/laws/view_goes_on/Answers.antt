use Rattle.gs_event.proofs.HistoryLemmas.{view_of-cons}
use Rattle.gs_event.proofs.laws.view_goes_on.Goals as goal

pub returns : goal.returns
returns c = view_of-cons
