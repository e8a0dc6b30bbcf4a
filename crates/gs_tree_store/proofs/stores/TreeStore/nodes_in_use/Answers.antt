use Rattle.std.proofs.Common.{◌+◌, ◌∙◌, ap, arith}
use Rattle.gs_event.specs.Waste.{nodes_in}
use Rattle.gs_tree_store.proofs.CountLemmas.{nodes_kept}
use Rattle.gs_tree_store.proofs.stores.TreeStore.nodes_in_use.Goals as goal

pub overflow_add-result : goal.overflow_add-result
overflow_add-result c = omega (arith, c.nodes_in_use.ensures.parted, c.nodes_in_use.ensures.fits, c.nodes_in_use.ensures.small, c.in_use.ensures.few)

pub returns : goal.returns
returns c = (λ i. c.nodes_in_use.ensures.value i + c.in_use.ensures.value i) ∙ nodes_kept c.self.inside c.self.invariant c.in_use.ensures.parts ∙ ap nodes_in c.self.view_is
