use Rattle.gs_lex.proofs.StandingLemmas.{stands-first}
use Rattle.gs_lex.proofs.pieces.PieceLexer.new.Goals as goal

pub returns : goal.returns
returns c = stands-first c.args.updates c.first_reading.result c.new.result.items c.first_reading.ensures c.new.ensures.items
