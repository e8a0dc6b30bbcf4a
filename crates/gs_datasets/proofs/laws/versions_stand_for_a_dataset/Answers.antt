use Rattle.gs_datasets.proofs.Sizes.{graph_at-is, is_there-is, size_at-is, triples_in-is, names_in-is, none_at_all}
use Rattle.gs_datasets.proofs.laws.versions_stand_for_a_dataset.Goals as goal

pub returns-clause-at : goal.returns-clause-at
returns-clause-at c = graph_at-is

pub returns-clause-there : goal.returns-clause-there
returns-clause-there c = is_there-is

pub returns-clause-size : goal.returns-clause-size
returns-clause-size c = size_at-is

pub returns-clause-triples : goal.returns-clause-triples
returns-clause-triples c = triples_in-is

pub returns-clause-names : goal.returns-clause-names
returns-clause-names c = names_in-is

pub returns-clause-none : goal.returns-clause-none
returns-clause-none c = none_at_all
