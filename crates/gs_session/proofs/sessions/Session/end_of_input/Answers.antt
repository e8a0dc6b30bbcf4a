use Rattle.std.proofs.Common.{◌++◌}
use Rattle.gs_session.proofs.InputLemmas.{input_ends}
use Rattle.gs_session.proofs.sessions.Session.end_of_input.Goals as goal

pub returns-clause-leads : goal.returns-clause-leads
returns-clause-leads c = λ x h w l. input_ends c.args.self.now.phase c.args.self.now.input x h (w ++ c.args.self.now.due.items) l
