use Rattle.std.proofs.Common.{rules, tests, ℕ, List, nat_eq}
use Rattle.std.proofs.lemmas.Iterator.Search.{any_from_yields_List}
use Rattle.std.proofs.lemmas.Iterator.Splits.{YieldsList-from_slice_split}
use Rattle.std.specs.Str.{str_eq_ignore_ascii_case}
use Rattle.httparse.specs.Grammar.{trim_ows}
use Rattle.gs_http.proofs.connections.lists.Goals as goal

pub returns : goal.returns
returns c =
    any_from_yields_List (λ (e : List ℕ). str_eq_ignore_ascii_case (trim_ows e) c.args.word.now) _ _ _ c.any.ensures.ran
    (YieldsList-from_slice_split _ (λ b. nat_eq b 44) c.args.value.now c.split.ensures.rest c.split.ensures.done c.split.ensures.closure (λ x b q k. search (rules, tests)))
    (λ x b q k. search (rules, tests))
