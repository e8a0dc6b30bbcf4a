use Rattle.std.proofs.Common.{◌∙◌, Some, sym, ap}
use Rattle.gs_tree.specs.Reading.{keys_at, keys_from, first_key}
use Rattle.gs_index.specs.Ages.{aged_key_cmp}
use Rattle.gs_index.specs.Kept.{number_if}
use Rattle.gs_index.proofs.sets.seek.Goals as goal

pub returns-in_err-key : goal.returns-in_err-key
returns-in_err-key c =
    let first = c.after.ensures ∙ (λ i. first_key (keys_from (aged_key_cmp (c.new-order.ensures i)) (Some (c.key_of.ensures i)) (keys_at c.args.pool.now c.args.root))) in
    c.from_residual.ensures ∙ ap number_if (sym c.in_err-key.was ∙ first)

pub returns : goal.returns
returns c =
    let first = c.after.ensures ∙ (λ i. first_key (keys_from (aged_key_cmp (c.new-order.ensures i)) (Some (c.key_of.ensures i)) (keys_at c.args.pool.now c.args.root))) in
    ap number_if (sym c.in_ok-key.was ∙ first)
