use Rattle.gs_workers.proofs.ServeLemmas.{serves_append}
use Rattle.gs_workers.proofs.workers.serve_streams.Goals as goal

pub loop-preserved : goal.loop-preserved
loop-preserved g c =
    let v = c.loop.invariant in
    let more = c.serve_stream.ensures in
    serves_append (record { base = c.args.plan.base.now; piece = c.args.plan.piece }) g.D.Door.Gives c.args.seat v.0 more.0 c.args.door.now c.loop.door c.serve_stream.new.door v.1 more.1

pub loop-preserved-in-Some-serve_stream : goal.loop-preserved-in-Some-serve_stream
loop-preserved-in-Some-serve_stream g c =
    let v = c.loop.invariant in
    let more = c.serve_stream.ensures in
    serves_append (record { base = c.args.plan.base.now; piece = c.args.plan.piece }) g.D.Door.Gives c.args.seat v.0 more.0 c.args.door.now c.loop.door c.serve_stream.new.door v.1 more.1
