use Rattle.httparse.specs.Grammar.{trim_ows}
use Rattle.gs_http.proofs.trimming.trim.Goals as goal

pub returns : goal.returns
unfolding trim_ows
returns c = rw (← c.trim_start.ensures) c.trim_end.ensures
