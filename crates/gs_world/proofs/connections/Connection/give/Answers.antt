use Rattle.gs_world.proofs.CallLemmas.{gets_live, on_ok, always_err}
use Rattle.gs_world.proofs.connections.Connection.give.Goals as goal

pub returns-in-Some-clause-given : goal.returns-in-Some-clause-given
returns-in-Some-clause-given c =
    on_ok c.give.result
    (λ g. gets_live c.args.self.now c.in-Some.session c.give.new.self c.args.bytes.now c.in-Some.is (g, c.give.ensures.setup, c.give.ensures.ended))
    c.give.ensures.given

pub returns-in-Some-clause-live : goal.returns-in-Some-clause-live
returns-in-Some-clause-live c = always_err c.give.result (c.in-Some.session, c.in-Some.is)
