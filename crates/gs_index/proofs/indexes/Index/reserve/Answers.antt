use Rattle.gs_index.specs.Ages.{aged_key_cmp, age_in}
use Rattle.gs_index.proofs.KeptLemmas.{kept_room, numbers_kept}
use Rattle.gs_index.proofs.indexes.Index.reserve.Goals as goal

pub invariant_of-self-2 : goal.invariant_of-self-2
invariant_of-self-2 c = kept_room c.self.inside.entries.items c.self.inside.pool c.reserve.new.self c.self.inside.root c.self.invariant c.reserve.ensures.nodes c.reserve.ensures.marks

pub returns-clause-listed : goal.returns-clause-listed
returns-clause-listed c =
    let x = c.self.inside in
    rw (← c.self.view_is) (numbers_kept (aged_key_cmp (age_in x.entries.items)) x.pool c.reserve.new.self x.root c.self.invariant.set c.reserve.ensures.nodes)
