use Rattle.gs_datasets.proofs.Keeping.{ledger_keeps, ledger_has_sets, others_stay, others_stay_beside, graphs_stay}
use Rattle.gs_datasets.proofs.laws.ledgers_keep_trees.Goals as goal

pub returns-clause-trees : goal.returns-clause-trees
returns-clause-trees c = ledger_keeps

pub returns-clause-sets : goal.returns-clause-sets
returns-clause-sets c = ledger_has_sets

pub returns-clause-others : goal.returns-clause-others
returns-clause-others c = others_stay

pub returns-clause-beside : goal.returns-clause-beside
returns-clause-beside c = others_stay_beside

pub returns-clause-graphs : goal.returns-clause-graphs
returns-clause-graphs c = graphs_stay
