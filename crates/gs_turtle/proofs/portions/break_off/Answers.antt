use Rattle.std.proofs.Common.{[]}
use Rattle.gs_turtle.specs.Portions.{end_of}
use Rattle.gs_turtle.proofs.PortionLemmas.{reports-broken}
use Rattle.gs_turtle.proofs.portions.break_off.Goals as goal

pub returns-in-Ok : goal.returns-in-Ok
returns-in-Ok c n = let p = c.args.parser.now in reports-broken p.last n (end_of p []) c.in-Ok.ensures.ok
