use Rattle.std.proofs.Common.{sym, ◌∙◌}
use Rattle.gs_pool.proofs.FollowLemmas.{same_pin}
use Rattle.gs_quads_tests.proofs.reads.is_same.Goals as goal

pub returns : goal.returns
returns c holds = same_pin c.args.one c.args.other (sym c.eq.ensures ∙ holds)
