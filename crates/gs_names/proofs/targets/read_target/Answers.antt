-- The path of a target is text.
use Rattle.std.proofs.Common.{sym, ◌∙◌}
use Rattle.gs_names.proofs.TargetLemmas.{path_text}
use Rattle.gs_names.proofs.targets.read_target.Goals as goal

pub place_at-requires : goal.place_at-requires
place_at-requires c =
    rw c.rest-rest.ensures (path_text c.args.base.now c.args.target.now c.position-mark.result (sym c.all_target_bytes.ensures ∙ c.if-not-all_target_bytes.false))
