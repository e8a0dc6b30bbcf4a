use Rattle.std.proofs.Common.{[]}
use Rattle.gs_lex.specs.Tokens as lexer
use Rattle.gs_update.specs.Tokens.{request_end}
use Rattle.gs_update.proofs.TokenLemmas.{reports_ended, reports_broken}
use Rattle.gs_update.proofs.tokens.break_off.Goals as goal

pub returns-in-Ok : goal.returns-in-Ok
returns-in-Ok c = λ n.
    let a = c.args.parser.now in
    let done = c.in-Ok.ensures.ok in
    reports_broken a.last c.conclude.new.parser.last n (request_end a []) done.whole done.last

pub returns-in-Err : goal.returns-in-Err
returns-in-Err c = λ n.
    let a = c.args.parser.now in
    reports_ended c.in-Err.refusal a.last (lexer.AtFault n) (request_end a []) c.in-Err.ensures.fault
