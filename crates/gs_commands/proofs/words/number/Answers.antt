use Rattle.std.proofs.Common.{arith, ◌∙◌}
use Rattle.gs_commands.proofs.WordLemmas.{number_unfit, number_above, number_is, number_other}
use Rattle.gs_commands.proofs.words.number.Goals as goal

pub returns-in_default : goal.returns-in_default
returns-in_default c = number_unfit c.args.text.now c.args.most c.in_default.ensures (omega arith)

pub returns-then-n-most : goal.returns-then-n-most
returns-then-n-most c = number_above c.args.text.now c.args.most c.in-Some.n c.in-Some.ensures c.if-n-most.true

pub returns-then-eq : goal.returns-then-eq
returns-then-eq c = (number_is c.args.text.now c.as_bytes.result.now c.in-Some.n (omega arith) (c.as_bytes.ensures.value ∙ c.format.ensures.text) c.if-eq.ensures, c.if-n-most.false)

pub returns-else-eq : goal.returns-else-eq
returns-else-eq c = number_other c.args.text.now c.as_bytes.result.now c.args.most c.in-Some.n (omega arith) c.in-Some.ensures (c.as_bytes.ensures.value ∙ c.format.ensures.text) c.if-eq.ensures
