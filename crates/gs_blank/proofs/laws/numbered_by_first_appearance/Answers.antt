use Rattle.gs_blank.proofs.AppearanceLemmas.{label_place, last_place}
use Rattle.gs_blank.proofs.laws.numbered_by_first_appearance.Goals as goal

pub returns-clause-label : goal.returns-clause-label
returns-clause-label c = label_place

pub returns-clause-last : goal.returns-clause-last
returns-clause-last c = last_place
