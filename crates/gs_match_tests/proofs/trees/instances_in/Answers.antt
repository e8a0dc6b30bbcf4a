use Rattle.std.proofs.Common.{◌≡◌, [], sym, subst}
use Rattle.gs_dict.specs.Numbering.{Numbered}
use Rattle.gs_tree.specs.Keys.{AllKeys}
use Rattle.gs_tree.specs.Sets.{IsSetAt}
use Rattle.gs_keys.specs.Texts.{key_cmp, IsGiven}
use Rattle.gs_keys.proofs.RootLemmas.{all_merge, set_graph}
use Rattle.gs_match_tests.proofs.trees.instances_in.Goals as goal

pub solve_counted-requires : goal.solve_counted-requires
solve_counted-requires c =
    let u = c.in_ok-merged.ensures.ok in
    let P = IsGiven c.args.dict.now.terms in
    let given = c.are_given.ensures c.if-not-are_given.false in
    set_graph c.args.dict.now.terms c.union.new.pool c.in_ok-merged.merged.root
    (subst (λ (d : Numbered). IsSetAt (key_cmp d.terms) c.union.new.pool c.in_ok-merged.merged.root) c.new-order.ensures u.set)
    (subst (AllKeys P) (sym u.keys_are) (all_merge (key_cmp c.new-order.result.dict.now.terms) P c.args.keys.now [] given tt))
