use Rattle.gs_turtle.proofs.BodyLemmas.{body-covered, body-read}
use Rattle.gs_turtle.proofs.laws.body_is_read.Goals as goal

pub returns : goal.returns
returns c = λ b x r S. (body-covered b r x S, body-read b r x S)
