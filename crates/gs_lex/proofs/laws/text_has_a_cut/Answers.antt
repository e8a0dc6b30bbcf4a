use Rattle.gs_lex.proofs.CutLemmas.{cut-from}
use Rattle.gs_lex.proofs.laws.text_has_a_cut.Goals as goal

pub returns : goal.returns
returns c = cut-from
