use Rattle.std.proofs.Common.{◌∙◌, ap, set, arith}
use Rattle.std.proofs.lemmas.List.{get_or_default}
use Rattle.std.proofs.lemmas.List.Edits.{map_over_more}
use Rattle.gs_triple_lists.specs.Kept.{renumbered_by}
use Rattle.gs_triple_lists.proofs.lists.renumber.Goals as goal

pub loop-three-preserved : goal.loop-three-preserved
loop-three-preserved c =
    let now = c.loop-three.threes in
    let at = c.loop-three.three-index in
    ap (set now at) c.renumbered.ensures
    ∙ map_over_more (renumbered_by c.args.numbers.now) c.args.threes.now now at _ (omega arith) c.loop-three.invariant (get_or_default now at _ _ (omega arith))
