use Rattle.std.proofs.Common.{◌≡◌, ◌||◌, sym, ap, ◌∙◌}
use Rattle.gs_tree_store.proofs.ReclaimLemmas.{kept_reclaimed, steps_reclaimed}
use Rattle.gs_tree_store.proofs.stores.TreeStore.free.Goals as goal
use Rattle.gs_tree_store.proofs.stores.TreeStore.free.Goals.{then-nodes, else-nodes}

pub invariant_of-self : goal.invariant_of-self
invariant_of-self c =
    let nodes = c.reclaim-nodes in
    let gone = c.reclaim-records in
    kept_reclaimed c.self.inside nodes.new.pool c.self.invariant nodes.ensures.ledgers gone.new.self c.args.count nodes.result.freed gone.result.freed nodes.result.left gone.result.left gone.ensures c.latest-before.ensures.listed c.latest-after.ensures.listed nodes.ensures.none_aside

pub returns : goal.returns
returns c = record {
  steps =
      let nodes = c.reclaim-nodes in
      let gone = c.reclaim-records in
      let more : c.if-nodes.result ≡ (nodes.result.left || gone.result.left) = elim c.if-nodes.branch [
        | then-nodes w ↦ w.result-is ∙ w.if-nodes.true ∙ sym (ap (λ x. x || gone.result.left) w.if-nodes.true)
        | else-nodes w ↦ w.result-is ∙ sym (ap (λ x. x || gone.result.left) w.if-nodes.false)
      ] in
      steps_reclaimed c.self.inside nodes.new.pool c.self.invariant nodes.ensures.ledgers gone.new.self c.args.count nodes.result.freed gone.result.freed nodes.result.left gone.result.left gone.ensures c.latest-before.ensures.listed c.latest-after.ensures.listed
      c.args.self.now c.if-nodes.result
      (kept_reclaimed c.self.inside nodes.new.pool c.self.invariant nodes.ensures.ledgers gone.new.self c.args.count nodes.result.freed gone.result.freed nodes.result.left gone.result.left gone.ensures c.latest-before.ensures.listed c.latest-after.ensures.listed nodes.ensures.none_aside)
      c.self.view_is more nodes.ensures.waste;
}
