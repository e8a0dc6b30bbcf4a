use Rattle.gs_session.specs.Steps.{server_of}
use Rattle.gs_session.proofs.InputLemmas.{starts}
use Rattle.gs_session.proofs.sessions.Session.new.Goals as goal

pub returns-clause-leads : goal.returns-clause-leads
returns-clause-leads c = starts (server_of (record { alloc = c.args.alloc; seat = c.args.seat; piece = c.args.piece; site = c.in_ok-site.site })) c.new-2.result c.new-3.result.items c.new-2.ensures c.new-3.ensures.items
