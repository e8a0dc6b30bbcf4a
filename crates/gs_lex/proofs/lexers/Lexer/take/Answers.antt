use Rattle.std.proofs.Common.{arith}
use Rattle.gs_lex.proofs.FeedLemmas.{takes-as}
use Rattle.gs_lex.proofs.lexers.Lexer.take.Goals as goal

pub returns-clause-ok : goal.returns-clause-ok
returns-clause-ok c =
    takes-as c.args.self.now _ c.deref.result.now c.in_ok-at.at c.in_ok-at.halt c.args.tokens.now.items c.read.new.tokens.items c.deref.ensures.value (omega arith)
    c.without_cut-self.ensures c.drop_front.ensures c.in_ok-at.ensures.ok.1
