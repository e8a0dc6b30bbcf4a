use Rattle.std.proofs.Common.{◌∙◌, arith}
use Rattle.gs_term.proofs.MakingLemmas.{decimal_is_numeral}
use Rattle.gs_drill.proofs.printing.shown.Goals as goal

pub returns : goal.returns
returns c = c.as_bytes.ensures.value ∙ c.format.ensures.text ∙ decimal_is_numeral c.args.n (omega arith)
