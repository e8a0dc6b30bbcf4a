use Rattle.gs_records.proofs.Lasting.{graphs_last}
use Rattle.gs_records.proofs.laws.last_graphs_are_current.Goals as goal

pub returns : goal.returns
returns c = graphs_last
