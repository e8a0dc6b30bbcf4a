use Rattle.gs_update_text.proofs.TextLemmas.{text_covered, text_read}
use Rattle.gs_update_text.proofs.laws.update_text_is_read.Goals as goal

pub returns : goal.returns
returns c = λ b x r os. (text_covered b r x os, text_read b r x os)
