use Rattle.std.proofs.Common.{refl, [], arith}
use Rattle.gs_lex.specs.Tokens.{Between}
use Rattle.gs_lex.proofs.SpanLemmas.{cut-spans}
use Rattle.gs_lex.proofs.laws.tokens_are_spans.Goals as goal

pub returns : goal.returns
returns c = λ u x h ts e d. cut-spans u x [] Between 0 0 x ts e h refl refl (omega arith) d
