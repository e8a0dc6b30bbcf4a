use Rattle.std.proofs.Common.{sym, ap, ◌∙◌, arith}
use lib.Count.{count_trailing_zeros}
use Rattle.gs_ntterm.proofs.WideLemmas.{run_through, run_stops}
use Rattle.gs_ntterm.proofs.runs.wide_run_end.Goals as goal

pub returns-then-found-ne0 : goal.returns-then-found-ne0
returns-then-found-ne0 g c =
    let found = c.outside_bits-found in
    let run = run_stops g.C.Class.class c.args.bytes.now c.loop-n.n 16 (omega arith) (omega arith) (omega (arith, found.ensures)) ∙ ap (count_trailing_zeros 64) (sym found.ensures) in
    omega (arith, run, c.loop-n.invariant.same)

pub loop-n-preserved : goal.loop-n-preserved
loop-n-preserved g c =
    let run = run_through g.C.Class.class c.args.bytes.now c.loop-n.n 16 (omega arith) (omega (arith, c.outside_bits-found.ensures)) in
    record { same = omega (arith, run, c.loop-n.invariant.same); within = omega arith }
