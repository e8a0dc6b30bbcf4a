use Rattle.gs_dict.specs.Numbering.{Numbered}
use Rattle.gs_tree.specs.Sets.{UnitesAt}
use Rattle.gs_keys.specs.Texts.{key_cmp}
use Rattle.gs_storage_bench.proofs.StoredLemmas.{stored_union}
use Rattle.gs_storage_bench.proofs.graphs.Graph.unite.Goals as goal
use Rattle.std.proofs.Common.{subst}

pub invariant_of-self-2 : goal.invariant_of-self-2
invariant_of-self-2 c =
    let m = c.in_ok-merged.merged in
    let u = subst (λ (d : Numbered). UnitesAt (key_cmp d.terms) c.args.commit c.args.commit c.self.inside.pool c.union.new.pool c.self.inside.root c.args.keys.now m) c.new-order.ensures c.in_ok-merged.ensures.ok in
    stored_union c.self.inside.dict.terms c.args.commit c.args.commit c.self.inside.pool c.union.new.pool c.self.inside.root c.args.keys.now m c.self.invariant (c.may_unite.ensures c.if-not-may_unite.false).given u
