use Rattle.gs_quads.proofs.Calls.{calls_keep}
use Rattle.gs_quads.proofs.laws.calls_keep_versions.Goals as goal

pub returns : goal.returns
returns c = calls_keep
