use Rattle.std.proofs.Common.{refl, []}
use Rattle.std.specs.Prelude.{Result, Ok, Err, OnOk}
use Rattle.std.proofs.lemmas.Result.{IfErr-weaker}
use Rattle.gs_lex.specs.Tokens as lexer
use Rattle.gs_turtle.specs.Documents.{ended_by}
use Rattle.gs_turtle.specs.Portions.{end_of}
use Rattle.gs_turtle.proofs.PortionLemmas.{reports-open}
use Rattle.gs_turtle.proofs.HistoryLemmas.{lexes-held, reads-portion, refused-portion, broken-portion}
use Rattle.gs_turtle.specs.declared.readers.TurtleReader.{TurtleReader}
use Rattle.gs_turtle.proofs.readers.TurtleReader.take_portion.Goals as goal

always_ok : {T E P : Type 0} (r : Result T E) → P → OnOk r P
always_ok (Ok x) p = p
always_ok (Err e) p = tt

pub returns-in-Read-clause-ok : goal.returns-in-Read-clause-ok
returns-in-Read-clause-ok c =
    let a = c.args.self.now in
    let b : TurtleReader = record a { lexer = c.take_tokens.new.lexer; parser = c.take_tokens.new.parser } in
    let piece = c.args.portion.now in
    let old = c.args.triples.now.items in
    let new = c.take_tokens.new.triples.items in
    let t = rw c.in-Read.is at c.in_ok-take_tokens.ensures.ok in
    let f = lexes-held a b c.hold.new.self a.parser b.parser piece old new c.in_ok-hold.ensures.taken t in
    always_ok c.go_on.result (reads-portion a b piece t.lexemes old new (record { base = refl; request = refl; closed = refl }) f t.taken)

pub returns-in-Read-clause-fault : goal.returns-in-Read-clause-fault
returns-in-Read-clause-fault c =
    let a = c.args.self.now in
    let b : TurtleReader = record a { lexer = c.take_tokens.new.lexer; parser = c.take_tokens.new.parser } in
    let piece = c.args.portion.now in
    let old = c.args.triples.now.items in
    let new = c.take_tokens.new.triples.items in
    let t = rw c.in-Read.is at c.in_ok-take_tokens.ensures.ok in
    let f = lexes-held a b c.hold.new.self a.parser b.parser piece old new c.in_ok-hold.ensures.taken t in
    IfErr-weaker c.go_on.result _ _ (λ e k. refused-portion e a b piece t.lexemes old new f t.taken k) c.go_on.ensures

pub returns-in-Read-clause-reported : goal.returns-in-Read-clause-reported
returns-in-Read-clause-reported c =
    let p = c.take_tokens.new.parser in
    IfErr-weaker c.go_on.result _ _ (λ e k. reports-open e p.last (end_of p []) (k [])) c.go_on.ensures

pub returns-in-Fault-clause-fault : goal.returns-in-Fault-clause-fault
returns-in-Fault-clause-fault c =
    let t = rw c.in-Fault.is at c.in_ok-take_tokens.ensures.ok in
    broken-portion c.break_off.result c.args.self.now c.hold.new.self c.take_tokens.new.lexer c.take_tokens.new.parser c.args.portion.now c.args.triples.now.items c.take_tokens.new.triples.items
    c.in_ok-hold.ensures.taken t c.break_off.ensures

pub returns-in-Fault-clause-reported : goal.returns-in-Fault-clause-reported
returns-in-Fault-clause-reported c =
    let p = c.take_tokens.new.parser in
    reports-open c.break_off.result p.last (ended_by (lexer.AtFault 0) (end_of p [])) (c.break_off.ensures 0)
