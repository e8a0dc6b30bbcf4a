use Rattle.gs_update_text.proofs.ProfileLemmas.{departure_read, departure_covered, departure_apart}
use Rattle.gs_update_text.proofs.laws.departure_is_refused.Goals as goal

pub returns-clause-refused : goal.returns-clause-refused
returns-clause-refused c = λ b r ts os. (departure_read b r ts os, departure_covered b r ts os)

pub returns-clause-apart : goal.returns-clause-apart
returns-clause-apart c = departure_apart
