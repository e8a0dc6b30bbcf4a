use Rattle.gs_update_text.proofs.FrontLemmas.{longest_said}
use Rattle.gs_update_text.proofs.PlaceLemmas.{fault_placed}
use Rattle.gs_update_text.proofs.laws.departure_ends_the_longest_front.Goals as goal

pub returns-clause-front : goal.returns-clause-front
returns-clause-front c = longest_said

pub returns-clause-place : goal.returns-clause-place
returns-clause-place c = fault_placed
