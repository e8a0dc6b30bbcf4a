use Rattle.gs_world.proofs.MadeLemmas.{nothing_follows}
use Rattle.gs_world.proofs.laws.nothing_follows_a_drop.Goals as goal

pub returns : goal.returns
returns c = nothing_follows
