use Rattle.gs_ntterm.proofs.NumberLemmas.{read-character, read-number}
use Rattle.gs_ntterm.proofs.laws.digits_make_the_number.Goals as goal

pub returns-clause-alike : goal.returns-clause-alike
returns-clause-alike c = read-character

pub returns-clause-number : goal.returns-clause-number
returns-clause-number c = read-number
