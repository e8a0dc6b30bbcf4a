use Rattle.std.proofs.Common.{[], subst, sym, refl}
use Rattle.gs_joins.specs.declared.lots.Lot.{Lot}
use Rattle.gs_joins.specs.Numbers.{numbers_of, Chooses}
use Rattle.gs_joins.specs.Lots.{Serves}
use Rattle.gs_joins.specs.Reductions.{HasNone}
use Rattle.gs_joins.proofs.LotLemmas.{at_is, none_chosen, none_near}
use Rattle.gs_joins.proofs.reduction.has_partners.Goals as goal

pub returns-then-not-branch : goal.returns-then-not-branch
returns-then-not-branch c e =
    let ls = c.args.lots.now in
    let l = c.index-lots-at.result in
    at_is (λ (z : Lot). HasNone ls z.sought c.args.key) ls c.args.at l c.requires.at c.index-lots-at.is
    (none_chosen ls l.sought c.args.key c.new-bound.result.items c.choose.new.bound.items c.new-bound.ensures.items
    (subst (Chooses c.new-bound.result.items c.choose.new.bound.items l.sought c.args.key) c.if-not-branch.true
    (subst (λ (z : Lot). Chooses c.new-bound.result.items c.choose.new.bound.items z.sought c.args.key c.in_ok-choose.field-0) (sym c.index-lots-at.is) c.in_ok-choose.ensures)))

pub returns-then-has_none : goal.returns-then-has_none
returns-then-has_none c e =
    let ls = c.args.lots.now in
    let l = c.index-lots-at.result in
    at_is (λ (z : Lot). HasNone ls z.sought c.args.key) ls c.args.at l c.requires.at c.index-lots-at.is
    (none_near ls l.sought c.args.key c.new-bound.result.items c.choose.new.bound.items c.loop-i.i c.index-lots-i.result [] c.new-bound.ensures.items
    (subst (Chooses c.new-bound.result.items c.choose.new.bound.items l.sought c.args.key) c.if-not-branch.false
    (subst (λ (z : Lot). Chooses c.new-bound.result.items c.choose.new.bound.items z.sought c.args.key c.in_ok-choose.field-0) (sym c.index-lots-at.is) c.in_ok-choose.ensures))
    c.loop-i-test.true c.index-lots-i.is
    (subst (λ bs. Serves (numbers_of bs) c.index-lots-i.result []) c.as_slice.ensures.value (c.if-has_none.ensures refl)) refl)
