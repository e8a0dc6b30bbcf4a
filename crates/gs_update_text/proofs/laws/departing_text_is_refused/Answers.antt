use Rattle.gs_update_text.proofs.TextLemmas.{leaving_covered, leaving_read}
use Rattle.gs_update_text.proofs.laws.departing_text_is_refused.Goals as goal

pub returns : goal.returns
returns c = λ b x r os. (leaving_covered b r x os, leaving_read b r x os)
