use Rattle.gs_storage_bench.proofs.StoredLemmas.{stored_kept}
use Rattle.gs_storage_bench.proofs.graphs.Graph.key_of.Goals as goal

pub invariant_of-self : goal.invariant_of-self
invariant_of-self c = stored_kept c.self.inside.dict c.numbers.new.dict c.self.inside.pool c.self.inside.root c.numbers.ensures c.self.invariant

pub invariant_of-self-2 : goal.invariant_of-self-2
invariant_of-self-2 c = stored_kept c.self.inside.dict c.numbers.new.dict c.self.inside.pool c.self.inside.root c.numbers.ensures c.self.invariant
