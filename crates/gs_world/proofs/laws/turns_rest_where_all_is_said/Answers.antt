use Rattle.gs_world.proofs.RestingLemmas.{last_turn}
use Rattle.gs_world.proofs.laws.turns_rest_where_all_is_said.Goals as goal

pub returns : goal.returns
returns c = last_turn
