use Rattle.gs_dict.proofs.GiveLemmas.{but_set}
use Rattle.gs_dict.proofs.chains.move_to.Goals as goal

pub put_in-requires-clause-linked : goal.put_in-requires-clause-linked
put_in-requires-clause-linked c = but_set _ _ _ _ c.take_out.ensures.linked
