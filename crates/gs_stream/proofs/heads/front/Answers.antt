use Rattle.gs_stream.proofs.PartLemmas.{front-min}
use Rattle.gs_stream.proofs.heads.front.Goals as goal

pub returns : goal.returns
returns c = front-min c.args.buffer.now c.min.result 16384 c.min.ensures
