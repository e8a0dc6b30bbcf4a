use Rattle.std.proofs.Common.{[]}
use Rattle.std.proofs.lemmas.Result.{on_ok_weaker, IfErr-weaker}
use Rattle.gs_lex.specs.Tokens as lexer
use Rattle.gs_turtle.specs.Documents.{ended_by}
use Rattle.gs_turtle.specs.Portions.{end_of}
use Rattle.gs_turtle.proofs.PortionLemmas.{reports-open}
use Rattle.gs_turtle.proofs.HistoryLemmas.{ends-whole, refused-at-end, broken-at-end}
use Rattle.gs_turtle.proofs.readers.TurtleReader.take_end.Goals as goal

pub returns-in-Read-clause-ok : goal.returns-in-Read-clause-ok
returns-in-Read-clause-ok c =
    let t = c.take_tokens.new in
    let all = rw c.in-Read.is at c.in_ok-take_tokens.ensures.ok in
    on_ok_weaker c.conclude.result (ends-whole c.args.self.now t.lexer t.parser c.args.triples.now.items t.triples.items all) c.conclude.ensures.ok

pub returns-in-Read-clause-fault : goal.returns-in-Read-clause-fault
returns-in-Read-clause-fault c =
    let t = c.take_tokens.new in
    let all = rw c.in-Read.is at c.in_ok-take_tokens.ensures.ok in
    IfErr-weaker c.conclude.result _ _ (λ e. refused-at-end e c.args.self.now t.lexer t.parser c.args.triples.now.items t.triples.items all) c.conclude.ensures.fault

pub returns-in-Fault-clause-fault : goal.returns-in-Fault-clause-fault
returns-in-Fault-clause-fault c =
    let t = c.take_tokens.new in
    let all = rw c.in-Fault.is at c.in_ok-take_tokens.ensures.ok in
    broken-at-end c.break_off.result c.args.self.now t.lexer t.parser c.args.triples.now.items t.triples.items all c.break_off.ensures

pub returns-in-Fault-clause-reported : goal.returns-in-Fault-clause-reported
returns-in-Fault-clause-reported c =
    let p = c.take_tokens.new.parser in
    reports-open c.break_off.result p.last (ended_by (lexer.AtFault 0) (end_of p [])) (c.break_off.ensures 0)
