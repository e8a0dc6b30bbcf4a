use Rattle.std.proofs.Common.{Bool, Ok, ap, ◌∙◌}
use Rattle.gs_session.proofs.ServeLemmas.{ended_here}
use Rattle.gs_session.proofs.serving.rounds.Goals as goal

pub loop-init : goal.loop-init
loop-init g c = λ p seat first unread held z. z

pub loop-preserved : goal.loop-preserved
loop-preserved g c = λ p seat first unread held z.
    c.round.ensures.goes (c.in-Ok-false.is ∙ ap (λ (b : Bool). Ok b) c.in-Ok-false.field-0-test) p seat first unread held (c.loop.invariant p seat first unread held z)

pub returns-in-Ok-true-clause-over : goal.returns-in-Ok-true-clause-over
returns-in-Ok-true-clause-over g c = λ p seat first unread held z.
    c.round.ensures.over (c.in-Ok-true.is ∙ ap (λ (b : Bool). Ok b) c.in-Ok-true.field-0-test) p seat first unread held (c.loop.invariant p seat first unread held z)

pub returns-in-Err-clause-fault : goal.returns-in-Err-clause-fault
returns-in-Err-clause-fault g c = λ p seat first unread held z.
    c.in-Err.ensures.fault p seat first unread held (c.loop.invariant p seat first unread held z)

pub returns-clause-fault : goal.returns-clause-fault
returns-clause-fault g c = λ p seat first unread held z.
    ended_here g.D.Door.Gives p seat unread (g.R.Read.remaining c.loop.reader) held (g.W.Write.contents c.loop.writer) first c.loop.door c.abandon.new.door c.loop.session
    (c.loop.invariant p seat first unread held z) c.abandon.ensures.quits
