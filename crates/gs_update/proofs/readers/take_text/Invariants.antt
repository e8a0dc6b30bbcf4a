use Rattle.gs_lex.specs.Cutting.{bytes_left}
use Rattle.gs_update.proofs.TextLemmas.{Walks}
use Rattle.gs_update.proofs.readers.take_text.Given as goal

abbrev pub invariant-tokens : goal.invariant-tokens
invariant-tokens l = Walks l.fn.parser l.parser l.lexer l.text

abbrev pub decreases-tokens : goal.decreases-tokens
decreases-tokens l = bytes_left l.lexer.text.now l.lexer.at
