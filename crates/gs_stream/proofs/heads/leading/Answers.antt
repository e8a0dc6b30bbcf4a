use Rattle.std.proofs.Common.{sym, ◌∙◌, arith}
use Rattle.gs_stream.proofs.HeadLemmas.{stripped-line, stripped-none}
use Rattle.gs_stream.proofs.heads.leading.Goals as goal

pub overflow_add-count : goal.overflow_add-count
overflow_add-count c =
    let f = stripped-line c.args.buffer.now c.loop-size.count c.in-Some.size c.loop-size.invariant.within c.in-Some.ensures in
    omega arith

pub loop-size-smaller : goal.loop-size-smaller
loop-size-smaller c =
    let f = stripped-line c.args.buffer.now c.loop-size.count c.in-Some.size c.loop-size.invariant.within c.in-Some.ensures in
    omega arith

pub loop-size-preserved : goal.loop-size-preserved
loop-size-preserved c =
    let f = stripped-line c.args.buffer.now c.loop-size.count c.in-Some.size c.loop-size.invariant.within c.in-Some.ensures in
    record { within = f.1; same = f.2 ∙ c.loop-size.invariant.same }

pub returns-clause-dropped : goal.returns-clause-dropped
returns-clause-dropped c =
    sym (stripped-none c.args.buffer.now c.loop-size.count (sym c.in_default.is ∙ c.empty_line.ensures)) ∙ c.loop-size.invariant.same
