use Rattle.gs_quads.proofs.Whole.{all_quads}
use Rattle.gs_quads.proofs.laws.all_quads_are_the_datasets.Goals as goal

pub returns : goal.returns
returns c = all_quads
