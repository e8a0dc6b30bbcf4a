use Rattle.gs_model.proofs.TextLemmas.{text_of-first}
use Rattle.gs_model.proofs.laws.first_byte_gives_the_kind.Goals as goal

pub returns : goal.returns
returns c = text_of-first
