use Rattle.std.proofs.Common.{length}
use Rattle.gs_lex.specs.Pieces.{left_in}
use Rattle.gs_turtle.proofs.PortionLemmas.{TakesFront}
use Rattle.gs_turtle.proofs.portions.take_tokens.Given as goal

abbrev pub invariant-tokens : goal.invariant-tokens
invariant-tokens l = TakesFront l.is_end l.fn.lexer l.lexer l.fn.parser l.parser l.fn.triples.items l.triples.items

abbrev pub decreases-tokens : goal.decreases-tokens
decreases-tokens l = length (left_in l.lexer)
