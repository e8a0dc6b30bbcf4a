use Rattle.gs_lex.specs.Tokens.{Between}
use Rattle.gs_lex.proofs.OneCutLemmas.{cut-one}
use Rattle.gs_lex.proofs.laws.text_has_one_cut.Goals as goal

pub returns : goal.returns
returns c = λ u x ts us e f a b. cut-one u Between 0 0 x ts us e f a b
