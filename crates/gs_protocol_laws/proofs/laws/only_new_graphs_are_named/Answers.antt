use Rattle.gs_protocol_laws.proofs.StatusLemmas.{new_named, only_new_named}
use Rattle.gs_protocol_laws.proofs.laws.only_new_graphs_are_named.Goals as goal

pub returns-clause-named : goal.returns-clause-named
returns-clause-named c = new_named

pub returns-clause-only : goal.returns-clause-only
returns-clause-only c = only_new_named
