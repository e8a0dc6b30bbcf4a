use Rattle.std.proofs.Common.{List, sym, subst}
use Rattle.gs_dict.specs.Numbering.{Numbered}
use Rattle.gs_pool.specs.declared.nodes.Key.{Key}
use Rattle.gs_tree.specs.Sets.{IsSetAt, UnitesAt}
use Rattle.gs_keys.specs.Texts.{key_cmp}
use Rattle.gs_staging.proofs.StageLemmas.{staged_grown}
use Rattle.gs_patch.proofs.OperationLemmas.{run_goes_in}
use Rattle.gs_patch.proofs.operations.insert.Goals as goal

pub union-requires-clause-set : goal.union-requires-clause-set
union-requires-clause-set c =
    let still = staged_grown c.args.dict.now c.run_of.new.dict c.args.pool.now c.args.root c.run_of.ensures.grows c.requires in
    subst (λ (d : Numbered). IsSetAt (key_cmp d.terms) c.args.pool.now c.args.root) (sym c.new-order.ensures) still.set

pub returns-clause-ok : goal.returns-clause-ok
returns-clause-ok c =
    let e = c.run_of.new.dict in
    let f = c.new-order.result.dict.now in
    let p = c.args.pool.now in
    let q = c.union.new.pool in
    let run = c.in_ok-keys.keys.items in
    let m = c.in_ok-union.field-0 in
    let of_run = subst (λ (xs : List Key). UnitesAt (key_cmp f.terms) c.args.birth c.args.birth p q c.args.root xs m) c.as_slice.ensures.value c.in_ok-union.ensures.ok in
    let united = subst (λ (n : Numbered). UnitesAt (key_cmp n.terms) c.args.birth c.args.birth p q c.args.root run m) c.new-order.ensures of_run in
    run_goes_in c.args.birth c.args.dict.now e p q c.args.root c.args.triples.now.items run m c.run_of.ensures.grows c.len-terms.ensures.distinct c.requires c.in_ok-keys.ensures.ok united
