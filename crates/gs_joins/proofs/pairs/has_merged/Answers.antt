use Rattle.std.proofs.Common.{◌≤◌, Vec, Global, get_or, ap, ◌∙◌, subst, arith}
use Rattle.gs_pool.specs.declared.nodes.Key.{Key}
use Rattle.gs_joins.specs.declared.bindings.Bound.{Bound}
use Rattle.gs_joins.specs.Numbers.{numbers_of}
use Rattle.gs_joins.specs.Lots.{first_of}
use Rattle.gs_joins.specs.Merges.{SkipsLess, IsNotAt}
use Rattle.gs_joins.specs.Sides.{TriesKey}
use Rattle.gs_joins.proofs.MergeLemmas.{less_more, none_has}
use Rattle.gs_joins.proofs.SideLemmas.{side_true, side_false, none_tried, none_merged}
use Rattle.gs_joins.proofs.pairs.has_merged.Goals as goal
use Rattle.gs_joins.proofs.pairs.has_merged.Goals.{else-has_number-via-then-has_number+in_ok-goes_with_list+else-branch, else-has_number-via-else-has_number}

-- any key
abbrev zero_key : Key
zero_key = record { subject = 0; predicate = 0; object = 0 }

pub returns-then-branch : goal.returns-then-branch
returns-then-branch c =
    let ls = c.args.lots.now in
    let i = c.args.one.now.at in
    let j = c.args.other.now.at in
    let near = c.args.one.now.near.now in
    let n = c.loop-key.key-index in
    let k : Key = get_or near n zero_key in
    side_true ls i j c.args.bound.now.items c.loop-key.bound.items near c.requires.one.at c.loop-key.invariant.bound c.goes_with_list.new.bound.items n zero_key
    c.requires.one.serves c.loop-key-test.true
    (subst (TriesKey ls i j c.loop-key.bound.items c.goes_with_list.new.bound.items k) c.if-branch.true c.in_ok-goes_with_list.ensures)

pub loop-key-preserved : goal.loop-key-preserved
loop-key-preserved c =
    let ls = c.args.lots.now in
    let i = c.args.one.now.at in
    let j = c.args.other.now.at in
    let p = c.args.joint in
    let old = c.args.bound.now.items in
    let near = c.args.one.now.near.now in
    let others = c.args.other.now.near.now in
    let n = c.loop-key.key-index in
    let from = c.loop-key.next in
    let to = c.from_number-next.result in
    let k : Key = get_or near n zero_key in
    let skips : SkipsLess p.other others from (first_of p.one k) to = subst (λ m. SkipsLess p.other others from m to) c.first_number-number.ensures c.from_number-next.ensures in
    record {
      none = elim c.else-has_number.branch [
        | else-has_number-via-then-has_number+in_ok-goes_with_list+else-branch w ↦
            none_tried ls i j old c.loop-key.bound.items near c.requires.one.at c.loop-key.invariant.bound w.goes_with_list.new.bound.items n zero_key c.loop-key-test.true c.loop-key.invariant.none
            (subst (TriesKey ls i j c.loop-key.bound.items w.goes_with_list.new.bound.items k) w.if-branch.false w.in_ok-goes_with_list.ensures)
        | else-has_number-via-else-has_number w ↦
            none_merged ls i j (numbers_of old) p near others n zero_key c.loop-key-test.true c.loop-key.invariant.none c.requires.other.at c.requires.other.serves c.requires.joint.joint
            (none_has p near others n from to zero_key c.loop-key-test.true c.requires.joint.rising c.loop-key.invariant.less skips c.requires.joint.rising_other
            (subst (IsNotAt p.other others to) c.first_number-number.ensures (c.has_number.ensures w.if-has_number.false)))
      ];
      bound = elim c.else-has_number.branch [
        | else-has_number-via-then-has_number+in_ok-goes_with_list+else-branch w ↦
            ap (λ (v : Vec Bound Global). v.items) w.bound-is ∙ w.in_ok-goes_with_list.ensures.bound ∙ c.loop-key.invariant.bound
        | else-has_number-via-else-has_number w ↦ ap (λ (v : Vec Bound Global). v.items) w.bound-is ∙ c.loop-key.invariant.bound
      ];
      within = c.from_number-next.ensures.within;
      less = λ m a d below up inside.
          let from_here : n ≤ a = omega arith in
          less_more p near others n from to zero_key c.loop-key-test.true c.requires.joint.rising c.loop-key.invariant.less skips m a d below from_here inside;
    }

pub returns : goal.returns
returns c =
    side_false c.args.lots.now c.args.one.now.at c.args.other.now.at c.args.bound.now.items c.loop-key.bound.items c.args.one.now.near.now c.requires.one.at c.loop-key.invariant.bound
    c.loop-key.key-index c.requires.one.serves c.loop-key-test.false c.loop-key.invariant.none
