use Rattle.std.proofs.Common.{get_or, subst}
use Rattle.gs_pool.specs.declared.nodes.Key.{Key}
use Rattle.gs_joins.specs.Sides.{TriesKey}
use Rattle.gs_joins.proofs.SideLemmas.{side_true, side_false}
use Rattle.gs_joins.proofs.pairs.has_either.Goals as goal

-- any key
abbrev zero_key : Key
zero_key = record { subject = 0; predicate = 0; object = 0 }

pub returns-then-branch : goal.returns-then-branch
returns-then-branch c =
    let ls = c.args.lots.now in
    let i = c.args.one.now.at in
    let near = c.args.one.now.near.now in
    let n = c.loop-key.key-index in
    let k : Key = get_or near n zero_key in
    side_true ls i c.args.other c.args.bound.now.items c.loop-key.bound.items near c.requires.one.at c.loop-key.invariant.bound c.goes_with_list.new.bound.items n zero_key
    c.requires.one.serves c.loop-key-test.true
    (subst (TriesKey ls i c.args.other c.loop-key.bound.items c.goes_with_list.new.bound.items k) c.if-branch.true c.in_ok-goes_with_list.ensures)

pub returns : goal.returns
returns c =
    side_false c.args.lots.now c.args.one.now.at c.args.other c.args.bound.now.items c.loop-key.bound.items c.args.one.now.near.now c.requires.one.at c.loop-key.invariant.bound
    c.loop-key.key-index c.requires.one.serves c.loop-key-test.false c.loop-key.invariant.none
