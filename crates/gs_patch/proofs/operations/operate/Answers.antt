use Rattle.std.proofs.Common.{refl, sym, ap, subst, ◌∙◌, inl, inr}
use Rattle.gs_event.specs.Solutions.{instances_of}
use Rattle.gs_event.specs.Updates.{operated, without_triples}
use Rattle.gs_model.specs.Graphs.{with_triples}
use Rattle.gs_pool.specs.Pool.{Nodes}
use Rattle.gs_keys.specs.Roots.{graph_of_root}
use Rattle.gs_patch.specs.Operations.{ChangesSome}
use Rattle.gs_patch.proofs.OperationLemmas.{nothing_done, operates}
use Rattle.gs_patch.proofs.operations.operate.Goals as goal

pub returns-in-Ok-clause-ok : goal.returns-in-Ok-clause-ok
returns-in-Ok-clause-ok c =
    let g = graph_of_root c.args.dict.now.terms c.args.pool.now c.args.root in
    let m = c.in-Ok.merged in
    let ts = c.in-Insert.triples.items in
    let same = sym (ap (operated g) c.in-Insert.is) in
    operates c.args.birth c.args.dict.now c.insert.new.dict c.args.pool.now c.insert.new.pool c.args.root c.args.operation.now (record { root = m.root; added = m.added; removed = 0 })
    (with_triples g ts) c.requires (inr refl) same c.in-Ok.ensures.ok

pub returns-in-Err-clause-half : goal.returns-in-Err-clause-half
returns-in-Err-clause-half c =
    let e = c.insert.new.dict in
    let p = c.args.pool.now in
    subst (λ (q : Nodes). ChangesSome c.args.birth e.terms p q c.args.root c.args.root) (sym c.in-Err.ensures.kept) (nothing_done c.args.birth c.args.dict.now e p c.args.root c.insert.ensures.grows c.requires)

pub returns-in_ok-pruned-in-DeleteData-clause-ok : goal.returns-in_ok-pruned-in-DeleteData-clause-ok
returns-in_ok-pruned-in-DeleteData-clause-ok c =
    let d = c.args.dict.now in
    let g = graph_of_root d.terms c.args.pool.now c.args.root in
    let m = c.in_ok-pruned-in-DeleteData.pruned in
    let ts = c.in-DeleteData.triples.items in
    let same = sym (ap (operated g) c.in-DeleteData.is) in
    operates c.args.birth d d c.args.pool.now c.delete.new.pool c.args.root c.args.operation.now (record { root = m.root; added = 0; removed = m.removed })
    (without_triples g ts) c.requires (inl refl) same c.in_ok-pruned-in-DeleteData.ensures.ok

pub returns-in_ok-pruned-in-DeleteWhere-clause-ok : goal.returns-in_ok-pruned-in-DeleteWhere-clause-ok
returns-in_ok-pruned-in-DeleteWhere-clause-ok c =
    let d = c.args.dict.now in
    let g = graph_of_root d.terms c.args.pool.now c.args.root in
    let m = c.in_ok-pruned-in-DeleteWhere.pruned in
    let ps = c.as_slice.result.now in
    let same = ap (λ xs. without_triples g (instances_of g xs)) c.as_slice.ensures.value ∙ sym (ap (operated g) c.in-DeleteWhere.is) in
    operates c.args.birth d d c.args.pool.now c.delete_instances.new.pool c.args.root c.args.operation.now (record { root = m.root; added = 0; removed = m.removed })
    (without_triples g (instances_of g ps)) c.requires (inl refl) same c.in_ok-pruned-in-DeleteWhere.ensures.ok
