use Rattle.std.proofs.Common.{◌∙◌, ◌++◌, take}
use Rattle.gs_tree.specs.Reading.{keys_at, keys_from}
use Rattle.gs_index.specs.Ages.{aged_key_cmp}
use Rattle.gs_index.proofs.sets.keys_after.Goals as goal

pub returns : goal.returns
returns c =
    let ks = keys_at c.args.pool.now c.args.root in
    c.in_ok-next_keys.ensures.ok
    ∙ (λ i. c.new-keys.ensures.items i ++ take c.args.most (keys_from (aged_key_cmp (c.new-order.ensures i)) (c.key_if.ensures i) ks))
