use Rattle.std.proofs.Common.{ap}
use Rattle.std.proofs.lemmas.Result.{err_from_is_err_and, on_ok_weaker, IfErr-weaker}
use Rattle.gs_update.proofs.TextLemmas.{walks_none, walks_more, walks_refused, walks_fault, walks_end_refused, walks_ended}
use Rattle.gs_update.proofs.readers.take_text.Goals as goal

pub tokens-init : goal.tokens-init
tokens-init c = walks_none c.args.parser.now c.new-lexer.result c.args.text.now c.requires (ap (λ z. z.now) c.new-lexer.ensures.text) c.new-lexer.ensures.given

pub tokens-preserved : goal.tokens-preserved
tokens-preserved c =
    walks_more c.args.parser.now c.tokens.parser c.take_token.new.parser c.tokens.lexer c.next_token.new.self c.args.text.now c.in-Token.token
    c.tokens.invariant c.in-Token.ensures.text c.in-Token.ensures.next c.in_ok-take_token-in-Token.ensures.ok

pub returns-in_err-take_token-in-Token-clause-fault : goal.returns-in_err-take_token-in-Token-clause-fault
returns-in_err-take_token-in-Token-clause-fault c =
    let p = err_from_is_err_and c.from_residual.result c.from_residual.ensures.1 in
    rw (p.1, p.2) (walks_refused _ c.args.parser.now c.tokens.parser c.tokens.lexer c.next_token.new.self c.args.text.now c.in-Token.token
    c.tokens.invariant c.in-Token.ensures.text c.in-Token.ensures.next c.in_err-take_token-in-Token.ensures.fault)

pub returns-in-Fault-clause-fault : goal.returns-in-Fault-clause-fault
returns-in-Fault-clause-fault c =
    walks_fault c.break_off.result c.args.parser.now c.tokens.parser c.tokens.lexer c.next_token.new.self c.args.text.now _
    c.tokens.invariant c.in-Fault.ensures.next c.break_off.ensures

pub returns-in-End-clause-ok : goal.returns-in-End-clause-ok
returns-in-End-clause-ok c =
    on_ok_weaker c.conclude.result
    (walks_ended c.args.parser.now c.tokens.parser c.conclude.new.parser c.tokens.lexer c.next_token.new.self c.args.text.now c.tokens.invariant c.in-End.ensures.next)
    c.conclude.ensures.ok

pub returns-in-End-clause-fault : goal.returns-in-End-clause-fault
returns-in-End-clause-fault c =
    IfErr-weaker c.conclude.result _ _
    (λ e. walks_end_refused e c.args.parser.now c.tokens.parser c.tokens.lexer c.next_token.new.self c.args.text.now c.tokens.invariant c.in-End.ensures.next)
    c.conclude.ensures.fault
