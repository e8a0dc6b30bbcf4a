use Rattle.std.proofs.Common.{sym, ap, ◌∙◌, subst, length, arith}
use Rattle.gs_joins.specs.Numbers.{numbers_of}
use Rattle.gs_match.specs.Ranges.{Covers}
use Rattle.gs_match.proofs.RangeWalks.{Walks, left_of, starts, steps, shorter, leaves}
use Rattle.gs_match.proofs.candidates.append_range.Goals as goal

pub keys-init : goal.keys-init
keys-init c =
    starts c.args.keys.now c.args.sought.now c.range_of-range.result c.args.bound.now.items c.args.to.now.items c.first_in-next.result
    (subst (λ bs. Covers c.range_of-range.result (numbers_of bs) c.args.sought.now) c.as_slice.ensures.value c.range_of-range.ensures.covers) c.first_in-next.ensures

pub returns-then-not-is_in_range : goal.returns-then-not-is_in_range
returns-then-not-is_in_range c =
    let w = subst (Walks c.args.keys.now c.args.sought.now c.range_of-range.result c.args.bound.now.items c.keys.bound.items c.args.to.now.items c.keys.to.items) c.in-Some.is c.keys.invariant in
    leaves c.args.keys.now c.requires.graph c.requires.distinct c.requires.few c.args.sought.now c.range_of-range.result c.range_of-range.ensures.form c.args.bound.now.items c.args.to.now.items
    c.keys.bound.items c.keys.to.items c.in-Some.key w
    (subst (λ bs. Covers c.range_of-range.result (numbers_of bs) c.args.sought.now) c.as_slice.ensures.value c.range_of-range.ensures.covers) (sym c.is_in_range.ensures ∙ c.if-not-is_in_range.true)

pub keys-smaller : goal.keys-smaller
keys-smaller c =
    let less = shorter c.args.keys.now c.requires.graph c.requires.distinct c.requires.few c.args.sought.now c.range_of-range.result c.range_of-range.ensures.form c.args.bound.now.items c.args.to.now.items
    c.in-Some.key c.after-next.result c.after-next.ensures in
    let was = ap (λ o. length (left_of c.args.keys.now o)) c.in-Some.is in
    omega (arith, less, was)

pub keys-preserved : goal.keys-preserved
keys-preserved c =
    let w = subst (Walks c.args.keys.now c.args.sought.now c.range_of-range.result c.args.bound.now.items c.keys.bound.items c.args.to.now.items c.keys.to.items) c.in-Some.is c.keys.invariant in
    steps c.args.keys.now c.requires.graph c.requires.distinct c.requires.few c.args.sought.now c.range_of-range.result c.range_of-range.ensures.form c.args.bound.now.items c.args.to.now.items
    c.keys.bound.items c.sift.new.bound.items c.keys.to.items c.sift.new.to.items c.in-Some.key c.after-next.result w c.after-next.ensures c.in_ok-sift.ensures
