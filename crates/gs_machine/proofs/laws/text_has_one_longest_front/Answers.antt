use Rattle.gs_machine.proofs.FrontLemmas.{some_front, one_front}
use Rattle.gs_machine.proofs.laws.text_has_one_longest_front.Goals as goal

pub returns : goal.returns
returns c = record { some = some_front; one = one_front }
