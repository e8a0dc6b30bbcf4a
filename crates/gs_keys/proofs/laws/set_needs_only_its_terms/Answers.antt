use Rattle.gs_keys.proofs.RootLemmas.{set_same, all_given_same}
use Rattle.gs_keys.proofs.laws.set_needs_only_its_terms.Goals as goal

pub returns-clause-set : goal.returns-clause-set
returns-clause-set c = set_same

pub returns-clause-given : goal.returns-clause-given
returns-clause-given c = all_given_same
