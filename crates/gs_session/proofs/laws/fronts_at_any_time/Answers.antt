use Rattle.gs_session.proofs.MomentLemmas.{says_front}
use Rattle.gs_session.proofs.laws.fronts_at_any_time.Goals as goal

pub returns : goal.returns
returns c = says_front
