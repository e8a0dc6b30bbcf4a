use Rattle.gs_tree_store.proofs.MarkedLemmas.{nodes_still}
use Rattle.gs_tree_store.proofs.sweeps.mark_needed.Goals as goal

pub returns-clause-nodes : goal.returns-clause-nodes
returns-clause-nodes c = nodes_still c.args.books.now.pool _ _ c.mark_places.ensures.kept c.mark_nodes.ensures.marked
