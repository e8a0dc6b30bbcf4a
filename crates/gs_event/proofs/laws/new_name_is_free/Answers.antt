use Rattle.gs_event.proofs.NameLemmas.{new_name-is_least}
use Rattle.gs_event.proofs.laws.new_name_is_free.Goals as goal

pub returns : goal.returns
returns c = new_name-is_least
