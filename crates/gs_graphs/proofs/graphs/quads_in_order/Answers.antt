use Rattle.std.proofs.Common.{◌∙◌, arith}
use Rattle.gs_term.specs.Names.{quad_line_of}
use Rattle.gs_graphs.proofs.LineRuns.{lines_more, lines_all}
use Rattle.gs_graphs.proofs.graphs.quads_in_order.Goals as goal

pub loop-triple-preserved : goal.loop-triple-preserved
loop-triple-preserved c =
    let more = lines_more (quad_line_of c.args.name.now) _ c.loop-triple.triple-index c.triple-item.result (omega arith) c.triple-item.is in
    cc (more, c.in-Ok.ensures.ok)

pub returns : goal.returns
returns c = c.loop-triple.invariant ∙ lines_all (quad_line_of c.args.name.now) _ c.loop-triple.triple-index (omega arith)
