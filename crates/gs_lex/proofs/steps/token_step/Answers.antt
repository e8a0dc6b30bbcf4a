use Rattle.std.proofs.Common.{refl}
use Rattle.gs_lex.proofs.steps.token_step.Goals as goal

pub returns-in-Some-clause-fits : goal.returns-in-Some-clause-fits
returns-in-Some-clause-fits c h = c.in-Some.ensures.found c.args.is_end c.args.at refl c.requires.between
