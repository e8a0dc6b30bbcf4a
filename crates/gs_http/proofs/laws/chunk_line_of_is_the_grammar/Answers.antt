use Rattle.gs_http.proofs.ChunkLemmas.{chunk_line_of_is_the_grammar}
use Rattle.gs_http.proofs.laws.chunk_line_of_is_the_grammar.Goals as goal

pub returns : goal.returns
returns c = chunk_line_of_is_the_grammar
