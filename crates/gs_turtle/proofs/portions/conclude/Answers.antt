use Rattle.gs_turtle.proofs.PortionLemmas.{ends-well, ends-reported}
use Rattle.gs_turtle.proofs.portions.conclude.Goals as goal

pub returns-clause-ok : goal.returns-clause-ok
returns-clause-ok c = ends-well c.args.parser.now c.in_ok-end.end c.outcome.result c.in_ok-end.ensures c.outcome.ensures.fault

pub returns-clause-fault : goal.returns-clause-fault
returns-clause-fault c = ends-reported c.args.parser.now c.in_ok-end.end c.outcome.result c.in_ok-end.ensures c.outcome.ensures.ok c.outcome.ensures.fault
