use Rattle.std.proofs.Common.{sym, subst}
use Rattle.gs_tree.specs.Sets.{IsSetAt}
use Rattle.gs_index.specs.Ages.{aged_key_cmp}
use Rattle.gs_index.specs.Kept.{ages_of, GainsNumber}
use Rattle.gs_index.proofs.KeptLemmas.{gained}
use Rattle.gs_index.proofs.sets.put.Goals as goal

pub union-requires-clause-set : goal.union-requires-clause-set
union-requires-clause-set c = subst (λ f. IsSetAt (aged_key_cmp f) c.args.pool.now c.args.root) (sym c.new-order.ensures) c.requires.set

pub returns : goal.returns
returns c =
    let p = c.args.pool.now in
    let q = c.union.new.pool in
    let m = c.in-Ok.merged in
    let gains = gained (ages_of c.new-order.result) p q c.args.root m c.args.number c.key_of.result c.key_of.ensures c.in-Ok.ensures.ok c.union.ensures.total in
    subst (λ f. GainsNumber f p q c.args.root m.root c.args.number) c.new-order.ensures gains
