use Rattle.std.proofs.Common.{◌≤◌, ◌∙◌, ap, arith, length}
use Rattle.gs_escape.specs.Runs.{run_of}
use Rattle.gs_escape.proofs.RunLemmas.{run_boundary}
use Rattle.gs_escape.proofs.runs.cut_run.Goals as goal

pub split_at-requires : goal.split_at-requires
split_at-requires c =
    let place = c.run.ensures.value ∙ ap (run_of c.args.form) c.as_bytes.ensures.value in
    let within : c.run.result ≤ length c.args.text.now = omega (arith, c.run.ensures.within, ap length c.as_bytes.ensures.value) in
    run_boundary c.args.form c.args.text.now c.run.result place within
