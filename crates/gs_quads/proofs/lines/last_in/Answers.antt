use Rattle.std.proofs.Common.{sym}
use Rattle.gs_quads.proofs.Parts.{last_own}
use Rattle.gs_quads.proofs.lines.last_in.Goals as goal

pub returns-in-Some : goal.returns-in-Some
returns-in-Some c = sym (last_own c.args.last c.args.number c.args.keys.now c.in-Some.key.now (sym c.in-Some.ensures.value))
