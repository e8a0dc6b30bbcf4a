use Rattle.gs_session.specs.Rounds.{Comes, Goes}
use Rattle.gs_session.proofs.serving.rounds.Given as goal

abbrev pub invariant-loop : goal.invariant-loop
invariant-loop g l = Comes g.D.Door.Gives l.fn.session (g.R.Read.remaining l.fn.reader) (g.W.Write.contents l.fn.writer) l.fn.door
    (g.R.Read.remaining l.reader) (g.W.Write.contents l.writer) l.door (λ p seat. Goes p seat l.session (g.R.Read.remaining l.reader))
