use Rattle.gs_records.proofs.Ordering.{listed_in_order}
use Rattle.gs_records.proofs.laws.graphs_are_listed_in_order.Goals as goal

pub returns : goal.returns
returns c = listed_in_order
