use Rattle.gs_datasets.proofs.Outlasting.{keys_outlast}
use Rattle.gs_datasets.proofs.laws.keyed_trees_outlast_new_terms.Goals as goal

pub returns : goal.returns
returns c = keys_outlast
