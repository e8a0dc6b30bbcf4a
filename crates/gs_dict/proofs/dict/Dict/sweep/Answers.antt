use Rattle.std.proofs.Common.{◌+◌, List, subst, arith}
use Rattle.gs_dict.specs.declared.chains.Entry.{Entry}
use Rattle.gs_dict.specs.Numbering.{Numbered}
use Rattle.gs_dict.specs.Sweeping.{Sweeps}
use Rattle.gs_dict.specs.Kept.{ClearsPlaces}
use Rattle.gs_dict.proofs.TermLemmas.{shown}
use Rattle.gs_dict.proofs.DictLemmas.{written}
use Rattle.gs_dict.proofs.SweepLemmas.{dict_swept, sweeps}
use Rattle.gs_dict.proofs.dict.Dict.sweep.Goals as goal

-- what the call does to the entries
clears :
    (c : goal.After-self-2-1)
    → ClearsPlaces c.args.marks.now c.args.from (c.args.from + c.args.count) c.self.inside.entries.items c.clear_places.new.entries
clears c =
    subst (λ (es : List Entry). ClearsPlaces c.args.marks.now c.args.from (c.args.from + c.args.count) es c.clear_places.new.entries)
    c.deref_mut.ensures.value c.clear_places.ensures

pub invariant_of-self : goal.invariant_of-self
invariant_of-self c =
    rw (written c.self.inside.entries.len c.clear_places.new.entries c.self.inside.entries.items (omega arith))
    (dict_swept c.args.marks.now c.args.from c.args.count _ _ _ (clears c) _ _ _ c.self.invariant)

pub returns : goal.returns
returns c =
    let P : Numbered → Type 0 = λ d. Sweeps c.args.marks.now c.args.from c.args.count d (shown c.self.inside.texts c.clear_places.new.entries c.self.inside.last) in
    rw (written c.self.inside.entries.len c.clear_places.new.entries c.self.inside.entries.items (omega arith))
    (subst P c.self.view_is (sweeps c.args.marks.now c.args.from c.args.count _ _ _ (clears c) c.self.inside.last))
