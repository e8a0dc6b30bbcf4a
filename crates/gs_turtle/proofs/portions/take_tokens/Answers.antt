use Rattle.gs_lex.specs.Lexemes.{lexeme_of_borrowed}
use Rattle.gs_turtle.proofs.PortionLemmas.{front-none, front-more, all-waits, all-ends}
use Rattle.gs_turtle.proofs.portions.take_tokens.Goals as goal

pub tokens-init : goal.tokens-init
tokens-init c = front-none c.args.is_end c.args.lexer.now c.args.parser.now c.args.triples.now.items

pub tokens-preserved : goal.tokens-preserved
tokens-preserved c =
    let e = c.in_ok-step-in-Token.ensures in
    front-more c.args.is_end c.args.lexer.now c.tokens.lexer c.advance.new.self c.args.parser.now c.tokens.parser c.step.new.self (lexeme_of_borrowed c.token.result)
    c.args.triples.now.items c.tokens.triples.items c.step.new.triples.items c.tokens.invariant c.in-Token.ensures.next c.token.ensures e.state e.given e.last

pub returns-in-Wait-clause-ok : goal.returns-in-Wait-clause-ok
returns-in-Wait-clause-ok c =
    all-waits c.args.is_end c.args.lexer.now c.tokens.lexer c.advance.new.self c.args.parser.now c.tokens.parser c.args.triples.now.items c.tokens.triples.items c.tokens.invariant c.in-Wait.ensures.next

pub returns-in-End-clause-ok : goal.returns-in-End-clause-ok
returns-in-End-clause-ok c =
    all-ends c.args.is_end c.args.lexer.now c.tokens.lexer c.advance.new.self c.args.parser.now c.tokens.parser c.args.triples.now.items c.tokens.triples.items c.tokens.invariant c.in-End.ensures.next
