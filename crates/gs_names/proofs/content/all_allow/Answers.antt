use Rattle.std.proofs.Common.{rules, tests, nat_eq}
use Rattle.std.proofs.lemmas.Iterator.Search.{all_from_yields_List}
use Rattle.std.proofs.lemmas.Iterator.Splits.{YieldsList-from_slice_split}
use Rattle.gs_names.specs.Media.{is_allowed_charset}
use Rattle.gs_names.proofs.content.all_allow.Goals as goal

pub returns : goal.returns
returns c =
    all_from_yields_List is_allowed_charset _ _ _ c.all.ensures.ran
    (YieldsList-from_slice_split _ (λ b. nat_eq b 59) c.args.value.now c.split.ensures.rest c.split.ensures.done c.split.ensures.closure (λ x b q k. search (rules, tests)))
    (λ x b q k. search (rules, tests))
