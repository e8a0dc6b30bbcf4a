use Rattle.gs_pool.specs.Pool.{room}
use Rattle.gs_index.proofs.KeptLemmas.{shown_indexed}
use Rattle.gs_index.proofs.indexes.Index.len.Goals as goal

pub returns-clause-indexed : goal.returns-clause-indexed
returns-clause-indexed c =
    let x = c.self.inside in
    rw (← c.self.view_is) (shown_indexed x.entries.items x.pool x.root (room x.pool) c.self.invariant)
