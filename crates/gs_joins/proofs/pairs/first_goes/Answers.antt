use Rattle.std.proofs.Common.{◌≡◌, true, Some, get_or, slice_get, refl, sym, subst}
use Rattle.std.proofs.lemmas.Option.{slice_get_within, get_or_from_slice_get}
use Rattle.gs_pool.specs.declared.nodes.Key.{Key}
use Rattle.gs_joins.specs.Sides.{TriesKey, TriesFirst}
use Rattle.gs_joins.proofs.GroupLemmas.{if_ok}
use Rattle.gs_joins.proofs.SideLemmas.{side_true}
use Rattle.gs_joins.proofs.pairs.first_goes.Goals as goal

-- any key
abbrev zero_key : Key
zero_key = record { subject = 0; predicate = 0; object = 0 }

pub returns-in-Some : goal.returns-in-Some
returns-in-Some c =
    let ls = c.args.lots.now in
    let i = c.args.one.now.at in
    let j = c.args.other in
    let near = c.args.one.now.near.now in
    let old = c.args.bound.now.items in
    let new = c.goes_with_list.new.bound.items in
    let k = c.in-Some.key.now in
    let found : slice_get near 0 ≡ Some k = sym c.in-Some.ensures.value in
    let is : k ≡ get_or near 0 zero_key = sym (get_or_from_slice_get near 0 k zero_key found) in
    if_ok c.goes_with_list.result (TriesKey ls i j old new k) (TriesFirst ls i j old new)
    (λ goes h. record {
      bound = h.bound;
      answer = λ so. sym (side_true ls i j old old near c.requires.one.at refl new 0 zero_key c.requires.one.serves (slice_get_within near 0 k found)
          (subst (λ x. TriesKey ls i j old new x true) is (subst (TriesKey ls i j old new k) so h))).answer;
    })
    c.goes_with_list.ensures
