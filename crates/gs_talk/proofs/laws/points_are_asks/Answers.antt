use Rattle.gs_talk.proofs.LogLemmas.{talk_points}
use Rattle.gs_talk.proofs.laws.points_are_asks.Goals as goal

pub returns : goal.returns
returns c = talk_points
