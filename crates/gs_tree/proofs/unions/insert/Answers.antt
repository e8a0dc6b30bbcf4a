use Rattle.std.proofs.Common.{[], ◌∷◌, length, Ok, Err}
use Rattle.gs_tree.specs.Tree.{tree_at}
use Rattle.gs_tree.specs.Reading.{keys_at}
use Rattle.gs_tree.specs.Sets.{UnitesAt, IsCheap}
use Rattle.gs_tree.proofs.WholeUnions.{one_cheap}
use Rattle.gs_tree.proofs.unions.insert.Goals as goal

pub returns-clause-cost : goal.returns-clause-cost
returns-clause-cost g c =
    let cmp = g.O.KeyOrder.compare c.args.order.now in
    let p = c.args.pool.now in
    let q = c.union.new.pool in
    elim c.union.result as (λ r. Rattle.std.specs.Result.IfOk r (UnitesAt cmp c.args.since c.args.birth p q c.args.root (c.args.key ∷ [])) → Rattle.std.specs.Result.OnOk r (IsCheap (length (keys_at p c.args.root)) p q)) [
      | Ok m ↦ λ u. one_cheap cmp (g.met.O.KeyOrder.total c.args.order.now) c.args.since c.args.birth p q m.root m.added (tree_at p c.args.root) c.args.key (tree_at q m.root) u
      | Err e ↦ λ u. tt
    ] c.union.ensures.ok
