use Rattle.std.proofs.Common.{◌≡◌, List, ◌∙◌, ap, arith}
use Rattle.gs_dict.specs.declared.chains.Entry.{Entry}
use Rattle.gs_dict.specs.Kept.{IsDict}
use Rattle.gs_dict.proofs.TermLemmas.{shown}
use Rattle.gs_dict.proofs.DictLemmas.{dict_moved, written}
use Rattle.gs_dict.proofs.dict.Dict.compact.Goals as goal

-- what the whole call leaves
whole :
    (c : goal.After-self-1)
    → IsDict c.compact.new.texts c.compact.new.entries c.self.inside.heads.items c.self.inside.seeded c.self.inside.last
    × (shown c.compact.new.texts c.compact.new.entries c.self.inside.last ≡ shown c.self.inside.texts c.self.inside.entries.items c.self.inside.last)
whole c =
    dict_moved _ _ _ _ _ _ _ _ c.self.invariant c.deref_mut.ensures.value c.compact.ensures.placed c.compact.ensures.kept
    c.compact.ensures.links c.compact.ensures.count

pub invariant_of-self : goal.invariant_of-self
invariant_of-self c = rw (written c.self.inside.entries.len c.compact.new.entries c.self.inside.entries.items (omega arith)) (whole c).0

pub returns : goal.returns
returns c =
    ap (λ (es : List Entry). shown c.compact.new.texts es c.self.inside.last)
    (written c.self.inside.entries.len c.compact.new.entries c.self.inside.entries.items (omega arith))
    ∙ (whole c).1
    ∙ c.self.view_is
