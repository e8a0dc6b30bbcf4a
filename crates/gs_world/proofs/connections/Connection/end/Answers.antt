use Rattle.gs_world.proofs.CallLemmas.{ends_live}
use Rattle.gs_world.proofs.connections.Connection.end.Goals as goal

pub returns-in-Some : goal.returns-in-Some
returns-in-Some c =
    ends_live c.args.self.now c.in-Some.session c.end_of_input.new.self c.in-Some.is
    (c.end_of_input.ensures.leads, c.end_of_input.ensures.setup, c.end_of_input.ensures.ended)
