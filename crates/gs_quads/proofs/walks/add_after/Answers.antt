use Rattle.std.proofs.Common.{◌≤◌, length, arith}
use Rattle.gs_quads.specs.Found.{all_graphs, numbers_past}
use Rattle.gs_quads.proofs.Adding.{adds_full}
use Rattle.gs_quads.proofs.walks.add_after.Goals as goal

pub returns : goal.returns
returns c =
    let full : c.args.most ≤ length c.walk.found.keys.items = omega arith in
    let s = c.args.source.now in
    c.walk.invariant.goes _ (adds_full s c.args.most _ c.walk.invariant.found (all_graphs s (numbers_past c.args.version s.records.now c.walk.after)) full)
