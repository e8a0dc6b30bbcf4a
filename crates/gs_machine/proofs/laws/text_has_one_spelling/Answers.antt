use Rattle.gs_machine.proofs.Utf8Lemmas.{spelt, one_spelling}
use Rattle.gs_machine.proofs.laws.text_has_one_spelling.Goals as goal

pub returns : goal.returns
returns c = record { spelt = spelt; one = one_spelling }
