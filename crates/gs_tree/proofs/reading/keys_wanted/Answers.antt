use Rattle.std.proofs.Common.{ap, take, ◌∙◌}
use Rattle.gs_tree.specs.Reading.{keys_at, keys_from}
use Rattle.gs_tree.proofs.FromLemmas.{take_min}
use Rattle.gs_tree.proofs.reading.keys_wanted.Goals as goal

pub returns-clause-all : goal.returns-clause-all
returns-clause-all g c =
    let ks = keys_from (g.O.KeyOrder.compare c.args.order.now) c.args.from (keys_at c.args.pool.now c.args.root) in
    ap (λ n. take n ks) c.count_from.ensures ∙ take_min c.args.most ks
