use Rattle.std.proofs.Common.{◌+◌, get_or, take, drop, sym, ap, ◌∙◌}
use Rattle.gs_quads.specs.Places.{as_places}
use Rattle.gs_quads.specs.Found.{run_places, last_or}
use Rattle.gs_quads.proofs.Parts.{no_run, last_is, last_both, places_cut}
use Rattle.gs_quads.proofs.lines.last_place.Goals as goal

pub loop-run-init : goal.loop-run-init
loop-run-init c = last_is (run_places c.args.runs.now c.args.keys.now)

pub loop-run-preserved : goal.loop-run-preserved
loop-run-preserved c =
    let runs = c.args.runs.now in
    let i = c.loop-run.run-index in
    let r = get_or runs i no_run in
    let left = c.loop-run.left.now in
    let last = c.loop-run.last in
    let rest = run_places (drop (i + 1) runs) (drop r.keys left) in
    (λ j. last_or (c.last_in-last.ensures j) (run_places (drop (i + 1) runs) (c.cut.ensures.back j)))
    ∙ ap (λ ks. last_or (last_or last (as_places r.number ks)) rest) c.cut.ensures.front
    ∙ sym (last_both last (as_places r.number (take r.keys left)) rest)
    ∙ sym (ap (last_or last) (places_cut runs left i c.loop-run-test.true))
    ∙ c.loop-run.invariant
