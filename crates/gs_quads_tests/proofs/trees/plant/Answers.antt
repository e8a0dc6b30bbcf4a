use Rattle.std.proofs.Common.{[], refl, sym, subst, inl}
use Rattle.gs_dict.specs.Numbering.{Numbered}
use Rattle.gs_tree.specs.Tree.{tree_at}
use Rattle.gs_tree.specs.Keys.{AllKeys}
use Rattle.gs_tree.specs.Sets.{IsSetAt}
use Rattle.gs_keys.specs.Texts.{key_cmp, IsGiven}
use Rattle.gs_keys.proofs.RootLemmas.{all_merge, set_graph}
use Rattle.gs_quads.proofs.Lasting.{graph_stands}
use Rattle.gs_quads_tests.proofs.trees.plant.Goals as goal

pub returns-clause-graph : goal.returns-clause-graph
returns-clause-graph c =
    let u = c.in_ok-merged.ensures.ok in
    let P = IsGiven c.args.dict.now.terms in
    let given = c.are_given.ensures c.if-not-are_given.false in
    set_graph c.args.dict.now.terms c.union.new.pool c.in_ok-merged.merged.root
    (subst (λ (d : Numbered). IsSetAt (key_cmp d.terms) c.union.new.pool c.in_ok-merged.merged.root) c.new-order.ensures u.set)
    (subst (AllKeys P) (sym u.keys_are) (all_merge (key_cmp c.new-order.result.dict.now.terms) P c.args.keys.now [] given tt))

pub returns-clause-others : goal.returns-clause-others
returns-clause-others c root graph =
    let kept = c.in_ok-merged.ensures.ok.others (tree_at c.args.pool.now root) graph.set.stands (λ x n has at. inl refl) in
    graph_stands c.args.dict.now.terms c.args.pool.now c.union.new.pool root graph kept.0
