use Rattle.gs_tree.specs.Tree.{tree_at}
use Rattle.gs_keys.specs.Texts.{key_cmp}
use Rattle.gs_changes.specs.Changes.{CanBegin}
use Rattle.gs_changes.proofs.ChangeLemmas.{draft}
use Rattle.gs_patch.proofs.patches.patch.Goals as goal

pub give_up-requires : goal.give_up-requires
give_up-requires c =
    let half = c.in-Err.ensures.half in
    draft (key_cmp c.operate_all.new.dict.terms) c.args.birth c.args.pool.now c.operate_all.new.pool c.in-Err.half.root half.0 half.1 (tree_at c.args.pool.now c.args.root) (tree_at c.operate_all.new.pool c.in-Err.half.root) c.requires.earlier half.2

pub returns-in-Err-clause-kept : goal.returns-in-Err-clause-kept
returns-in-Err-clause-kept c =
    let t = tree_at c.args.pool.now c.args.root in
    let begun : CanBegin c.args.birth c.args.pool.now t = record { earlier = c.requires.earlier; none_aside = c.requires.none_aside; parted = c.nodes_in_use-used.ensures.unmarked } in
    c.give_up.ensures.undoes c.args.pool.now t begun c.in-Err.ensures.half.2.step
