use Rattle.gs_protocol_laws.proofs.DatasetLineLemmas.{default_first, named_in_order, as_many}
use Rattle.gs_protocol_laws.proofs.laws.lines_of_a_dataset_are_in_order.Goals as goal

pub returns-clause-first : goal.returns-clause-first
returns-clause-first c = default_first

pub returns-clause-order : goal.returns-clause-order
returns-clause-order c = named_in_order

pub returns-clause-count : goal.returns-clause-count
returns-clause-count c = as_many
