use Rattle.std.proofs.Common.{ℕ, List, take, subst}
use Rattle.std.specs.Io.KnownBytes.{Appends}
use Rattle.gs_session.specs.declared.sessions.Turn.TheVariants.{NeedInput, Made, Output, Over}
use Rattle.std.proofs.KnownBytes.{Appends-nil}
use Rattle.gs_session.proofs.ServeLemmas.{at_end, after_turn, cut_short, after_read, failed_read, done_quits, flushed}
use Rattle.gs_session.proofs.serving.round.Goals as goal

pub returns-in-Made-clause-goes : goal.returns-in-Made-clause-goes
returns-in-Made-clause-goes g c = λ e p seat first unread held z.
    let r = g.R.Read.remaining c.args.reader.now in
    let h = g.W.Write.contents c.args.writer.now in
    after_turn g.D.Door.Gives p seat unread r held h h first c.args.door.now c.turn.new.door c.args.session.now c.turn.new.self Made z c.in-Made.ensures.turns c.turn.ensures.setup c.turn.ensures.ended (Appends-nil h)

pub returns-then-write_text-clause-goes : goal.returns-then-write_text-clause-goes
returns-then-write_text-clause-goes g c = λ e p seat first unread held z.
    let r = g.R.Read.remaining c.args.reader.now in
    let h = g.W.Write.contents c.args.writer.now in
    let h2 = g.W.Write.contents c.write_text.new.writer in
    after_turn g.D.Door.Gives p seat unread r held h h2 first c.args.door.now c.turn.new.door c.args.session.now c.turn.new.self (Output c.in-Output.text) z c.in-Output.ensures.turns c.turn.ensures.setup c.turn.ensures.ended
    (subst (λ (u : List ℕ). Appends h h2 u) c.as_slice.ensures.value (c.write_text.ensures.all c.if-write_text.true))

pub returns-in-Output-clause-fault : goal.returns-in-Output-clause-fault
returns-in-Output-clause-fault g c = λ p seat first unread held z.
    let r = g.R.Read.remaining c.args.reader.now in
    let h = g.W.Write.contents c.args.writer.now in
    let h2 = g.W.Write.contents c.write_text.new.writer in
    cut_short g.D.Door.Gives p seat unread r held h h2 first c.args.door.now c.turn.new.door c.abandon.new.door c.args.session.now c.turn.new.self (Output c.in-Output.text) c.write_text.ensures.front.0 z
    c.in-Output.ensures.turns c.turn.ensures.setup c.turn.ensures.ended c.abandon.ensures.quits
    (subst (λ (u : List ℕ). Appends h h2 (take c.write_text.ensures.front.0 u)) c.as_slice.ensures.value c.write_text.ensures.front.1)

pub returns-in-Ok-await_input-clause-goes : goal.returns-in-Ok-await_input-clause-goes
returns-in-Ok-await_input-clause-goes g c = λ e p seat first unread held z.
    let r = g.R.Read.remaining c.args.reader.now in
    let h = g.W.Write.contents c.args.writer.now in
    let h2 = g.W.Write.contents c.await_input.new.writer in
    after_read g.D.Door.Gives p seat unread r (g.R.Read.remaining c.await_input.new.reader) held h2 first c.turn.new.door c.turn.new.self c.await_input.new.session
    (flushed g.D.Door.Gives seat unread r held h h2 first c.turn.new.door _
    (after_turn g.D.Door.Gives p seat unread r held h h first c.args.door.now c.turn.new.door c.args.session.now c.turn.new.self NeedInput z c.in-NeedInput.ensures.turns c.turn.ensures.setup c.turn.ensures.ended (Appends-nil h))
    c.await_input.ensures.keeps)
    c.in-Ok-await_input.ensures.ok

pub returns-clause-fault : goal.returns-clause-fault
returns-clause-fault g c = λ p seat first unread held z.
    let r = g.R.Read.remaining c.args.reader.now in
    let h = g.W.Write.contents c.args.writer.now in
    let h2 = g.W.Write.contents c.await_input.new.writer in
    failed_read g.D.Door.Gives p seat unread r (g.R.Read.remaining c.await_input.new.reader) held h2 first c.turn.new.door c.abandon-in-Err-await_input.new.door c.turn.new.self c.await_input.new.session
    (flushed g.D.Door.Gives seat unread r held h h2 first c.turn.new.door _
    (after_turn g.D.Door.Gives p seat unread r held h h first c.args.door.now c.turn.new.door c.args.session.now c.turn.new.self NeedInput z c.in-NeedInput.ensures.turns c.turn.ensures.setup c.turn.ensures.ended (Appends-nil h))
    c.await_input.ensures.keeps)
    c.in-NeedInput.ensures.rests.0 c.in-Err-await_input.ensures.err c.abandon-in-Err-await_input.ensures.quits

pub returns-in-Ok-clause-over : goal.returns-in-Ok-clause-over
returns-in-Ok-clause-over g c = λ e p seat first unread held z.
    let r = g.R.Read.remaining c.args.reader.now in
    let h = g.W.Write.contents c.args.writer.now in
    let h2 = g.W.Write.contents c.flush.new.self in
    flushed g.D.Door.Gives seat unread r held h h2 first c.turn.new.door _
    (at_end g.D.Door.Gives p seat unread r held h first c.turn.new.door c.turn.new.self
    (after_turn g.D.Door.Gives p seat unread r held h h first c.args.door.now c.turn.new.door c.args.session.now c.turn.new.self Over z c.in-Over.ensures.turns c.turn.ensures.setup c.turn.ensures.ended (Appends-nil h))
    c.in-Over.ensures.rests) c.flush.ensures.bytes

pub returns-in-Over-clause-fault : goal.returns-in-Over-clause-fault
returns-in-Over-clause-fault g c = λ p seat first unread held z.
    let r = g.R.Read.remaining c.args.reader.now in
    let h = g.W.Write.contents c.args.writer.now in
    let h2 = g.W.Write.contents c.flush.new.self in
    done_quits g.D.Door.Gives p seat unread r held h2 first c.turn.new.door
    (flushed g.D.Door.Gives seat unread r held h h2 first c.turn.new.door _
    (at_end g.D.Door.Gives p seat unread r held h first c.turn.new.door c.turn.new.self
    (after_turn g.D.Door.Gives p seat unread r held h h first c.args.door.now c.turn.new.door c.args.session.now c.turn.new.self Over z c.in-Over.ensures.turns c.turn.ensures.setup c.turn.ensures.ended (Appends-nil h))
    c.in-Over.ensures.rests) c.flush.ensures.bytes)
