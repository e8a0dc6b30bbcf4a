use Rattle.std.proofs.Common.{◌<◌, ◌∙◌, length, ap}
use Rattle.std.proofs.lemmas.List.{get_or_default}
use Rattle.gs_index.specs.Ages.{age_of, blank_entry}
use Rattle.gs_index.proofs.KeptLemmas.{kept_end}
use Rattle.gs_index.proofs.indexes.Index.end.Goals as goal

pub invariant_of-self : goal.invariant_of-self
invariant_of-self c =
    let x = c.self.inside in
    let h : c.args.number < length x.entries.items = rw (← c.self.view_is) at c.requires in
    let same = c.index_mut.ensures.value ∙ get_or_default x.entries.items c.args.number c.index_mut.result.now blank_entry h in
    kept_end x.entries.items c.args.number _ x.pool x.root (ap age_of same) c.self.invariant
