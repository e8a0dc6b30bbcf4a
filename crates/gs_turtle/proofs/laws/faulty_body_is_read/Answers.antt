use Rattle.gs_turtle.proofs.FaultLemmas.{faulty_read, faulty_covered, broken_read}
use Rattle.gs_turtle.proofs.laws.faulty_body_is_read.Goals as goal

pub returns-clause-front : goal.returns-clause-front
returns-clause-front c = λ b x r S. (faulty_read b r x S, faulty_covered b r x S)

pub returns-clause-place : goal.returns-clause-place
returns-clause-place c = λ b x r at. broken_read b r x at
