use Rattle.std.proofs.Common.{[], ◌∷◌, refl, subst, arith}
use Rattle.std.proofs.lemmas.List.Sorted.{IsPermutation-swap}
use Rattle.gs_joins.specs.declared.lots.Lot.{Lot}
use Rattle.gs_joins.specs.Numbers.{numbers_of}
use Rattle.gs_joins.specs.Lots.{Serves}
use Rattle.gs_joins.specs.Choices.{Searches}
use Rattle.gs_joins.proofs.LotLemmas.{at_is}
use Rattle.gs_joins.proofs.GroupLemmas.{if_ok}
use Rattle.gs_joins.proofs.SearchLemmas.{searches_moved}
use Rattle.gs_joins.proofs.pairs.has_pair.Goals as goal

pub returns-then-cost : goal.returns-then-cost
returns-then-cost c =
    let ls = c.args.lots.now in
    let i = c.args.one.now.at in
    let j = c.args.second in
    let old = c.args.bound.now.items in
    let new = c.has_sides.new.bound.items in
    if_ok c.has_sides.result (Searches ls (j ∷ i ∷ []) old new) (Searches ls (i ∷ j ∷ []) old new)
    (λ found h. searches_moved ls (i ∷ j ∷ []) (j ∷ i ∷ []) old new found (IsPermutation-swap (i ∷ j ∷ []) (j ∷ i ∷ []) 0 1 (omega arith) (omega arith) refl) h)
    c.has_sides.ensures

pub has_sides-requires-2-clause-other : goal.has_sides-requires-2-clause-other
has_sides-requires-2-clause-other c =
    let near = c.near-near.result.now in
    record {
      at = c.requires.second;
      serves = at_is (λ (z : Lot). Serves (numbers_of c.args.bound.now.items) z near) c.args.lots.now c.args.second c.index-lots-second.result c.requires.second c.index-lots-second.is
          (subst (λ bs. Serves (numbers_of bs) c.index-lots-second.result near) c.as_slice.ensures.value c.near-near.ensures);
    }
