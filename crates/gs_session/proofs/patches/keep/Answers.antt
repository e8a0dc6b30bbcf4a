use Rattle.std.proofs.Common.{subst, take, [], ap, ◌∙◌, ◌++◌}
use Rattle.gs_session.specs.declared.phases.Work.{Work}
use Rattle.gs_session.specs.declared.phases.Phase.TheVariants.{Serving}
use Rattle.gs_session.specs.Outcomes.{Says}
use Rattle.gs_session.proofs.PatchLemmas.{keep_rests, keep_fails}
use Rattle.gs_session.proofs.patches.keep.Goals.{in-Ok, in-Err}
use Rattle.gs_session.proofs.patches.keep.Goals as goal

pub returns : goal.returns
returns c = elim c.match-kept.branch [
  | in-Ok w ↦ λ e t some p.
      keep_rests c.args.setup.now e c.args.asked c.args.request c.args.body c.extend_from_slice-kept.new.self t c.args.transfer (take c.args.count c.args.input.now) c.args.input.now c.skip.new.self c.args.count c.silently.result
      some c.requires.within p (w.in-Ok.ensures.items ∙ ap (λ z. c.args.body.items ++ take c.args.count z) c.as_slice.ensures)
      (subst (λ (k : Work). Says c.silently.result (Serving c.args.asked k) []) w.work-is c.silently.ensures) c.skip.ensures
  | in-Err w ↦ λ e t some p.
      keep_fails c.args.setup.now e c.args.asked c.args.request c.args.body t c.args.transfer (take c.args.count c.args.input.now) c.args.input.now c.skip.new.self c.args.count c.silently.result
      some c.requires.within p (subst (λ (k : Work). Says c.silently.result (Serving c.args.asked k) []) w.work-is c.silently.ensures) c.skip.ensures
]
