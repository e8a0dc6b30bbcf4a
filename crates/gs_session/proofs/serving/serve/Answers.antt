use Rattle.std.proofs.lemmas.Result.{on_ok_weaker, on_err_weaker}
use Rattle.gs_talk.specs.Logs.{Server}
use Rattle.gs_session.proofs.ServeLemmas.{never, starts}
use Rattle.gs_session.proofs.serving.serve.Goals as goal

pub returns-in_default-clause-front : goal.returns-in_default-clause-front
returns-in_default-clause-front g c =
    never g.D.Door.Gives (record { base = c.args.base.now; piece = c.args.piece }) c.args.seat (g.R.Read.remaining c.args.reader.now) (g.W.Write.contents c.args.writer.now) c.args.door.now

pub returns-clause-whole : goal.returns-clause-whole
returns-clause-whole g c =
    let p : Server = record { base = c.args.base.now; piece = c.args.piece } in
    let r = g.R.Read.remaining c.args.reader.now in
    let h = g.W.Write.contents c.args.writer.now in
    let is = c.in-Ok.ensures in
    let begun = starts g.D.Door.Gives p c.args.seat r h c.args.door.now c.in-Ok.session is.leads is.goes is.server is.seat in
    on_ok_weaker c.rounds-done.result (λ comes. comes p c.args.seat c.args.door.now r h begun) c.rounds-done.ensures.over

pub returns-clause-front : goal.returns-clause-front
returns-clause-front g c =
    let p : Server = record { base = c.args.base.now; piece = c.args.piece } in
    let r = g.R.Read.remaining c.args.reader.now in
    let h = g.W.Write.contents c.args.writer.now in
    let is = c.in-Ok.ensures in
    let begun = starts g.D.Door.Gives p c.args.seat r h c.args.door.now c.in-Ok.session is.leads is.goes is.server is.seat in
    on_err_weaker c.rounds-done.result (λ comes. comes p c.args.seat c.args.door.now r h begun) c.rounds-done.ensures.fault
