use Rattle.std.proofs.Common.{refl}
use Rattle.gs_dict.proofs.DictLemmas.{given_as}
use Rattle.gs_dict.proofs.dict.put.Goals as goal

pub returns-in_ok-give-in-Some-clause-value : goal.returns-in_ok-give-in-Some-clause-value
returns-in_ok-give-in-Some-clause-value c =
    let empty = rw c.in-Some.is at c.requires.empty in
    given_as _ _ _ _ _ _ _ _ refl empty c.give.ensures.others c.in_ok-give-in-Some.ensures.ok c.give.ensures.count
