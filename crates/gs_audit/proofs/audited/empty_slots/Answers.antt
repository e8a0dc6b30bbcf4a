use Rattle.std.proofs.Common.{[], ◌∷◌, ◌++◌, ◌∙◌}
use Rattle.std.proofs.lemmas.List.{replicate-append-replicate}
use Rattle.gs_audit.specs.declared.slots.Slot.TheVariants.{Empty}
use Rattle.gs_audit.proofs.audited.empty_slots.Goals as goal

pub loop-preserved : goal.loop-preserved
loop-preserved c =
    c.in_ok-push.ensures.items ∙ (λ i. c.loop.invariant i ++ Empty ∷ []) ∙ replicate-append-replicate c.loop.counter 1 Empty
