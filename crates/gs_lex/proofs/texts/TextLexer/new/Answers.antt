use Rattle.gs_lex.proofs.TextLemmas.{cut-start}
use Rattle.gs_lex.proofs.texts.TextLexer.new.Goals as goal

pub returns-clause-given : goal.returns-clause-given
returns-clause-given c = cut-start c.args.updates c.first_reading.result c.args.text.now c.first_reading.ensures
