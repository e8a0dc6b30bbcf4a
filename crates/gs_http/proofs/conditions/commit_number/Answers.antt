use Rattle.std.proofs.Common.{◌∙◌}
use Rattle.gs_http.proofs.NumberLemmas.{commit_number_fits}
use Rattle.gs_http.proofs.conditions.commit_number.Goals as goal

pub returns : goal.returns
returns c = c.number.ensures ∙ commit_number_fits c.args.value.now c.requires
