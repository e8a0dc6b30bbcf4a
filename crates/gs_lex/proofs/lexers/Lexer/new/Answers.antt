use Rattle.std.proofs.Common.{refl}
use Rattle.gs_lex.proofs.FinishLemmas.{leads-fresh}
use Rattle.gs_lex.proofs.lexers.Lexer.new.Goals as goal

pub returns : goal.returns
returns c = leads-fresh c.args.updates _ refl c.new.ensures.items c.first_reading.ensures
