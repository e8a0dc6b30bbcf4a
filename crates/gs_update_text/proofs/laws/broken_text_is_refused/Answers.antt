use Rattle.gs_update_text.proofs.TextLemmas.{broken_read, broken_covered, broken_placed}
use Rattle.gs_update_text.proofs.laws.broken_text_is_refused.Goals as goal

pub returns-clause-front : goal.returns-clause-front
returns-clause-front c = λ b x r os. (broken_read b r x os, broken_covered b r x os)

pub returns-clause-place : goal.returns-clause-place
returns-clause-place c = λ b x r at. broken_placed b r x at
