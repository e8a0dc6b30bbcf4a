use Rattle.std.proofs.Common.{arith}
use Rattle.gs_chronicle.proofs.KeptOpLemmas.{taken_none, taken_next, taken_more, taken_all}
use Rattle.gs_chronicle.proofs.kept_ops.take_all.Goals as goal

pub loop-place-init : goal.loop-place-init
loop-place-init c = taken_none c.args.forms.now c.args.ops.now c.requires

pub take_patterns-requires : goal.take_patterns-requires
take_patterns-requires c =
    let l = c.loop-place in
    taken_next l.place l.forms l.ops c.args.ops.now c.index-forms-place.result c.index-ops-place.result l.invariant (omega (arith))

pub loop-place-preserved : goal.loop-place-preserved
loop-place-preserved c =
    let l = c.loop-place in
    taken_more l.place l.forms l.ops c.args.ops.now c.index-ops-place.result c.take_patterns.new.form c.take_patterns.new.op l.invariant (omega (arith)) c.take_patterns.ensures

pub returns : goal.returns
returns c =
    let l = c.loop-place in
    taken_all l.place l.forms l.ops c.args.ops.now l.invariant (omega (arith))
