use Rattle.std.proofs.Common.{◌+◌, ◌++◌, get_or, drop, sym, ap, subst, ◌∙◌, append_assoc}
use Rattle.gs_keys.specs.Texts.{IsGiven}
use Rattle.gs_lines.specs.Graphs.{bytes_in}
use Rattle.gs_quads.specs.Found.{run_places, bytes_at, KeysAreGiven}
use Rattle.gs_quads.proofs.Parts.{no_run, keys_after, runs_left}
use Rattle.gs_quads.proofs.lines.add_quads.Goals as goal

pub loop-run-preserved : goal.loop-run-preserved
loop-run-preserved c =
    let s = c.args.source.now in
    let graph = c.record.result.now.target in
    let own = c.cut.result.0.now in
    let old = c.loop-run.lines.items in
    let lines = bytes_in s.dict.now.terms graph own in
    let rest = bytes_at s (run_places (drop (c.loop-run.run-index + 1) c.args.runs.now) c.cut.result.1.now) in
    record {
      given = subst (KeysAreGiven s) (sym c.cut.ensures.back) (keys_after (IsGiven s.dict.now.terms) (get_or c.args.runs.now c.loop-run.run-index no_run).keys c.loop-run.left.now c.loop-run.invariant.given);
      terms = c.in_ok-add_lines.ensures.terms ∙ c.loop-run.invariant.terms;
      added =
          ap (λ xs. xs ++ rest) (c.in_ok-add_lines.ensures.bytes ∙ ap (λ terms. old ++ bytes_in terms graph own) c.loop-run.invariant.terms)
          ∙ append_assoc old lines rest
          ∙ ap (λ xs. old ++ xs) (sym (runs_left s c.args.runs.now c.loop-run.left.now c.cut.result.0.now c.cut.result.1.now c.record.result.now c.loop-run.run-index c.loop-run-test.true c.cut.ensures.front c.cut.ensures.back c.record.ensures))
          ∙ c.loop-run.invariant.added;
    }
