use Rattle.gs_protocol_laws.proofs.NumberLemmas.{lose_nothing}
use Rattle.gs_protocol_laws.proofs.laws.conditions_lose_nothing.Goals as goal

pub returns : goal.returns
returns c = lose_nothing
