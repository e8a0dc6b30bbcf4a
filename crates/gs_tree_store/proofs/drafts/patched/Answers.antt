use Rattle.std.proofs.Common.{◌^◌, ◌<◌, length, arith}
use Rattle.gs_keys.specs.Texts.{key_cmp}
use Rattle.gs_tree_store.proofs.DraftLemmas.{patched_made, few_in_draft}
use Rattle.gs_tree_store.proofs.drafts.patched.Goals as goal

pub counted-requires : goal.counted-requires
counted-requires c =
    let x = c.in-Ok.draft in
    let q = c.patch.new.pool in
    let most = c.nodes_in_use-most.ensures in
    let small : length q.nodes < 2 ^ 32 = omega (arith, most.fits, most.small) in
    let few = few_in_draft (key_cmp c.patch.new.dict.terms) c.args.birth c.args.pool.now q c.args.old.root x.root x.added x.removed c.args.old.triples c.requires.counted c.in-Ok.ensures.ok.changes small in
    record { some = few.0; few = few.1 }

pub returns-clause-ok : goal.returns-clause-ok
returns-clause-ok c =
    patched_made c.args.birth c.args.dict.now.terms c.patch.new.dict.terms c.args.pool.now c.patch.new.pool c.args.old c.args.operations.now c.in-Ok.draft c.counted.result c.requires c.nodes_in_use-used.ensures.unmarked c.in-Ok.ensures.ok c.counted.ensures
