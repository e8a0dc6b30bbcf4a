use Rattle.gs_transfer.proofs.BodyLemmas.{chunked-grammar}
use Rattle.gs_transfer.proofs.laws.chunked_is_the_grammar.Goals as goal

pub returns : goal.returns
returns c = chunked-grammar
