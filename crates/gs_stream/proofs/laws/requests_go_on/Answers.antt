use Rattle.gs_stream.proofs.RequestLemmas.{reads-on}
use Rattle.gs_stream.proofs.laws.requests_go_on.Goals as goal

pub returns : goal.returns
returns c = reads-on
