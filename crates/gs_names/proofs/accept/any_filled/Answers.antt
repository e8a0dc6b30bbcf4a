use Rattle.std.proofs.Common.{rules, tests, nat_eq}
use Rattle.std.proofs.lemmas.Iterator.Search.{any_from_yields_List}
use Rattle.std.proofs.lemmas.Iterator.Splits.{YieldsList-from_slice_split}
use Rattle.gs_names.specs.Accepts.{is_filled}
use Rattle.gs_names.proofs.accept.any_filled.Goals as goal

pub returns : goal.returns
returns c =
    any_from_yields_List is_filled _ _ _ c.any.ensures.ran
    (YieldsList-from_slice_split _ (λ b. nat_eq b 44) c.args.value.now c.split.ensures.rest c.split.ensures.done c.split.ensures.closure (λ x b q k. search (rules, tests)))
    (λ x b q k. search (rules, tests))
