use Rattle.std.proofs.Common.{◌≡◌}
use Rattle.gs_session.specs.Steps.{effort}
use Rattle.gs_session.specs.Turns.{IsKept}
use Rattle.gs_session.proofs.sessions.Session.turn.Given as goal

abbrev pub invariant-loop-self : goal.invariant-loop-self
invariant-loop-self g l = record {
  kept : IsKept l.fn.self l.self;
  setup : l.self.setup ≡ l.fn.self.setup;
  ended : l.self.ended ≡ l.fn.self.ended;
  door : l.door ≡ l.fn.door;
}

abbrev pub decreases-loop-self : goal.decreases-loop-self
decreases-loop-self g l = effort l.self.phase l.self.input
