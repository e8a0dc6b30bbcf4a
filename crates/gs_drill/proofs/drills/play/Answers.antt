use Rattle.std.proofs.Common.{false}
use Rattle.gs_drill.specs.Standing.{Standing, run_state}
use Rattle.gs_drill.proofs.PlayLemmas.{Playing-none, Playing-more, Playing-ends, Playing-all, Halts-none, shorter}
use Rattle.gs_commands.proofs.WordLemmas.{filled, emptied}
use Rattle.gs_drill.proofs.drills.play.Goals as goal

pub returns-in-Err : goal.returns-in-Err
returns-in-Err g c = Halts-none c.args.input.now (g.W.Write.contents c.args.out.now)

pub returns-in-Err-take_line : goal.returns-in-Err-take_line
returns-in-Err-take_line g c =
    let held = g.W.Write.contents in
    let st = c.loop-rest.invariant.0 in
    let takes = c.take_line in
    Playing-ends {T = Standing takes.new.store takes.new.uploads} c.args.input.now c.loop-rest.rest.now c.split.result.0.now c.loop-rest.number (run_state c.loop-rest.begun st) (run_state takes.new.begun)
    (held c.args.out.now) (held c.loop-rest.out) (held takes.new.out) c.in-Err-take_line.stop
    c.loop-rest.invariant.1 (filled c.loop-rest.rest.now c.is_empty.result c.is_empty.ensures c.loop-rest-test.true) c.split.ensures.before (c.in-Err-take_line.ensures st)

pub loop-rest-init : goal.loop-rest-init
loop-rest-init g c = let new = c.in-Ok.ensures.begins in (new.standing, Playing-none c.args.input.now (run_state false new.standing) (g.W.Write.contents c.args.out.now) (new.is false))

pub loop-rest-smaller : goal.loop-rest-smaller
loop-rest-smaller g c =
    let some = filled c.loop-rest.rest.now c.is_empty.result c.is_empty.ensures c.loop-rest-test.true in
    shorter c.loop-rest.rest.now c.split.result.1.now some c.split.ensures.after

pub loop-rest-preserved : goal.loop-rest-preserved
loop-rest-preserved g c =
    let held = g.W.Write.contents in
    let st = c.loop-rest.invariant.0 in
    let takes = c.take_line in
    let printed = c.in_default.ensures st in (
      printed.last,
      Playing-more c.args.input.now c.loop-rest.rest.now c.split.result.0.now c.split.result.1.now c.loop-rest.number (run_state c.loop-rest.begun st) (run_state takes.new.begun printed.last)
          (held c.args.out.now) (held c.loop-rest.out) (held takes.new.out)
          c.loop-rest.invariant.1 (filled c.loop-rest.rest.now c.is_empty.result c.is_empty.ensures c.loop-rest-test.true) c.split.ensures.before c.split.ensures.after
          (record { text = printed.text; makes = printed.makes; written = printed.written }),
    )

pub returns : goal.returns
returns g c =
    let held = g.W.Write.contents in
    let st = c.loop-rest.invariant.0 in
    Playing-all c.args.input.now c.loop-rest.rest.now c.loop-rest.number (run_state c.loop-rest.begun st) (held c.args.out.now) (held c.loop-rest.out) c.loop-rest.invariant.1
    (emptied c.loop-rest.rest.now c.is_empty.result c.is_empty.ensures c.loop-rest-test.false)
