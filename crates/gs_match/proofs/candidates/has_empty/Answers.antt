use Rattle.std.proofs.Common.{nat_eq, ap, ◌∙◌}
use Rattle.gs_match.proofs.SeedLemmas.{no_keys, none_solve}
use Rattle.gs_match.proofs.candidates.has_empty.Goals as goal

pub returns-then-is_empty : goal.returns-then-is_empty
returns-then-is_empty c e =
    none_solve c.args.lots.now c.loop-lot.lot-index c.lot-item.result c.loop-lot-test.true c.lot-item.is
    (no_keys c.lot-item.result.keys.items (c.if-is_empty.ensures ∙ ap (λ n. nat_eq n 0) c.lot-item.result.keys.ok.0))
