use Rattle.gs_http.proofs.HeadLemmas.{head_of_is_the_grammar}
use Rattle.gs_http.proofs.laws.head_of_is_the_grammar.Goals as goal

pub returns : goal.returns
returns c = head_of_is_the_grammar
