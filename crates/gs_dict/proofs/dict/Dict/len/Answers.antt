use Rattle.std.proofs.Common.{ap, arith, length}
use Rattle.gs_dict.proofs.TermLemmas.{length-terms_of, terms_distinct}
use Rattle.gs_dict.specs.Numbering.{Numbered}
use Rattle.gs_dict.proofs.dict.Dict.len.Goals as goal

pub returns-clause-value : goal.returns-clause-value
returns-clause-value c = omega (arith, ap (λ (d : Numbered). length d.terms) c.self.view_is, length-terms_of c.self.inside.texts c.self.inside.entries.items)

pub returns-clause-fits : goal.returns-clause-fits
returns-clause-fits c =
    omega (arith, ap (λ (d : Numbered). length d.terms) c.self.view_is, length-terms_of c.self.inside.texts c.self.inside.entries.items, ap (λ (d : Numbered). d.last) c.self.view_is, c.self.invariant.few)

pub returns-clause-distinct : goal.returns-clause-distinct
returns-clause-distinct c = rw (← c.self.view_is) (terms_distinct _ _ _ _ _ c.self.invariant)

pub returns-clause-small : goal.returns-clause-small
returns-clause-small c = omega (arith, ap (λ (d : Numbered). d.last) c.self.view_is, c.self.invariant.bounded)
