use Rattle.std.proofs.Common.{arith}
use Rattle.gs_commands.proofs.LineReaderLemmas.{step_least}
use Rattle.gs_commands.proofs.words.decoded.Goals as goal

pub returns-in_default : goal.returns-in_default
returns-in_default c = let h = step_least c.args.digits.now c.loop-b.b-index c.loop-b.value c.loop-b-test.true in omega (arith, h, c.loop-b.invariant, c.in_default.ensures)

pub returns-in_default-checked_add : goal.returns-in_default-checked_add
returns-in_default-checked_add c =
    let h = step_least c.args.digits.now c.loop-b.b-index c.loop-b.value c.loop-b-test.true in
    omega (arith, h, c.loop-b.invariant, c.in_default-checked_add.ensures, c.in-Some.ensures, c.saturating_sub.ensures, c.from.ensures)
