use Rattle.std.proofs.Common.{sym, subst}
use Rattle.std.proofs.lemmas.Result.{IfOk-weaker}
use Rattle.gs_tree.specs.Sets.{IsSetAt, UnitesAt}
use Rattle.gs_keys.specs.Texts.{key_cmp}
use Rattle.gs_staging.specs.Staging.{Stages}
use Rattle.gs_staging.proofs.StageLemmas.{staged_grown, stages}
use Rattle.gs_staging.proofs.stages.stage.Goals as goal

pub unite-requires-clause-set : goal.unite-requires-clause-set
unite-requires-clause-set c =
    let still = staged_grown c.args.dict.now c.run_of.new.dict c.args.pool.now c.args.root c.run_of.ensures.grows c.requires.staged in
    subst (λ d. IsSetAt (key_cmp d.terms) c.args.pool.now c.args.root) (sym c.new-order.ensures) still.set

pub returns-clause-ok : goal.returns-clause-ok
returns-clause-ok c =
    let d = c.args.dict.now in
    let e = c.run_of.new.dict in
    let f = c.new-order.result.dict.now in
    let p = c.args.pool.now in
    let q = c.unite.new.pool in
    let run = c.in_ok-keys.keys.items in
    IfOk-weaker c.unite.result (UnitesAt (key_cmp f.terms) 0 c.args.birth p q c.args.root c.as_slice.result.now) (Stages c.args.birth d.terms e.terms p q c.args.root c.args.triples.now.items)
    (λ m united.
    let of_run = subst (λ xs. UnitesAt (key_cmp f.terms) 0 c.args.birth p q c.args.root xs m) c.as_slice.ensures.value united in
    let here = subst (λ n. UnitesAt (key_cmp n.terms) 0 c.args.birth p q c.args.root run m) c.new-order.ensures of_run in
    stages c.args.birth d e p q c.args.root c.args.triples.now.items run m c.run_of.ensures.grows c.len-terms.ensures.distinct c.requires.staged c.in_ok-keys.ensures.ok here) c.unite.ensures.ok
