use Rattle.std.proofs.Common.{arith, sym}
use Rattle.gs_lex.proofs.RunLemmas.{pass-spaces, all-spaces}
use Rattle.gs_lex.proofs.StepLemmas.{pass-hash, end-nothing}
use Rattle.gs_lex.proofs.steps.next_step.Goals as goal

pub returns-then-is_end-clause-fits : goal.returns-then-is_end-clause-fits
returns-then-is_end-clause-fits c h = (c.if-is_end.true, end-nothing c.args.at c.args.rest.now c.if-at.false (omega arith))

pub returns-then-is_space-clause-fits : goal.returns-then-is_space-clause-fits
returns-then-is_space-clause-fits c h = pass-spaces c.args.is_end c.args.at c.args.rest.now c.space_run.result c.if-at.false c.space_run.ensures.within (omega arith) (all-spaces c.args.rest.now c.space_run.result (sym c.if-is_space.ensures) c.space_run.ensures.plain)

pub returns-then-byte-eq35-clause-fits : goal.returns-then-byte-eq35-clause-fits
returns-then-byte-eq35-clause-fits c h = pass-hash c.args.is_end c.args.at c.args.rest.now c.if-at.false (omega arith) (omega arith)
