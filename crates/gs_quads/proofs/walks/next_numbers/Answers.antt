use Rattle.std.proofs.Common.{arith}
use Rattle.gs_quads.proofs.Numbers.{next_are}
use Rattle.gs_quads.proofs.walks.next_numbers.Goals as goal

pub returns-in-Ok : goal.returns-in-Ok
returns-in-Ok c = next_are 256 c.args.version c.args.records.now (omega arith) c.next_at.ensures.listed c.args.from c.in-Ok.next.0.items c.in-Ok.next.1 c.in-Ok.ensures.numbers c.in-Ok.ensures.rest
