use Rattle.std.proofs.Common.{◌≡◌, ◌^◌, ◌<◌, length, subst, arith}
use Rattle.gs_dict.specs.Numbering.{Numbered}
use Rattle.gs_tree.specs.Keys.{merge_keys}
use Rattle.gs_tree.specs.Reading.{keys_at}
use Rattle.gs_keys.specs.Texts.{key_cmp}
use Rattle.gs_changes.specs.Changes.{ChangesAt}
use Rattle.gs_tree_store.proofs.DraftLemmas.{united_made, few_in_draft}
use Rattle.gs_tree_store.proofs.drafts.united.Goals as goal

pub overflow_add-result : goal.overflow_add-result
overflow_add-result c =
    let m = c.in_ok-merged.merged in
    let p = c.args.pool.now in
    let q = c.add_keys.new.pool in
    let most = c.nodes_in_use-most.ensures in
    let small : length q.nodes < 2 ^ 32 = omega (arith, most.fits, most.small) in
    let changes = subst (λ (d : Numbered). ChangesAt (key_cmp d.terms) c.args.birth p q c.args.old.root m.root m.added 0) c.new-order.ensures c.in_ok-merged.ensures.ok in
    let few = few_in_draft (key_cmp c.args.dict.now.terms) c.args.birth p q c.args.old.root m.root m.added 0 c.args.old.triples c.requires.can.counted changes small in
    omega (arith, few.1)

pub returns-clause-ok : goal.returns-clause-ok
returns-clause-ok c =
    let m = c.in_ok-merged.merged in
    let p = c.args.pool.now in
    let q = c.add_keys.new.pool in
    let changes = subst (λ (d : Numbered). ChangesAt (key_cmp d.terms) c.args.birth p q c.args.old.root m.root m.added 0) c.new-order.ensures c.in_ok-merged.ensures.ok in
    let keys_are = subst (λ (d : Numbered). keys_at q m.root ≡ merge_keys (key_cmp d.terms) c.args.keys.now (keys_at p c.args.old.root)) c.new-order.ensures c.in_ok-merged.ensures.keys in
    united_made c.args.birth c.args.dict.now p q c.args.old c.args.keys.now m.root m.added c.len-terms.ensures.distinct c.requires.can c.nodes_in_use-used.ensures.unmarked c.requires.run changes keys_are
