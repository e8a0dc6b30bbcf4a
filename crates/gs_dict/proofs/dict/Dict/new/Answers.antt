use Rattle.std.proofs.Common.{◌≡◌, ℕ, ◌∙◌, ap, arith, []}
use Rattle.gs_dict.specs.Numbering.{none_numbered}
use Rattle.gs_dict.specs.Chains.{AreEnough}
use Rattle.gs_dict.specs.Kept.{terms_of}
use Rattle.gs_dict.proofs.TermLemmas.{terms_none}
use Rattle.gs_dict.proofs.DictLemmas.{dict_empty}
use Rattle.gs_dict.proofs.dict.Dict.new.Goals as goal

-- the first buckets are enough
enough_as : {n : ℕ} → n ≡ 1024 → AreEnough n 0
enough_as is = record { some = omega (arith, is); power = (10, is); short = omega arith }

pub invariant_of-result : goal.invariant_of-result
invariant_of-result c =
    rw (c.new-2.ensures.items)
    (dict_empty c.in_ok-texts.texts c.in_ok-heads.heads.items _ _ c.in_ok-heads.ensures.empty (enough_as c.in_ok-heads.ensures.count) (omega arith))

pub returns : goal.returns
returns c =
    let none : terms_of c.in_ok-texts.texts c.new-2.result.items ≡ [] = ap (terms_of c.in_ok-texts.texts) c.new-2.ensures.items ∙ terms_none c.in_ok-texts.texts in
    ap (λ ts. record { terms = ts; last = c.min.result }) none ∙ ap none_numbered c.min.ensures
