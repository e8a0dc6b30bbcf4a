use Rattle.gs_model.proofs.TextLemmas.{term_of-text_of, text_of-injective}
use Rattle.gs_model.proofs.laws.text_has_one_term.Goals as goal

pub returns : goal.returns
returns c = record { one = term_of-text_of; distinct = text_of-injective }
