use Rattle.gs_plain.proofs.QuadLemmas.{none_named}
use Rattle.gs_plain.proofs.quads.named_at.Goals as goal

pub loop-row-init : goal.loop-row-init
loop-row-init c = none_named c.new-found.result c.new-found.ensures.empty
