use Rattle.std.proofs.Common.{true, sym, ap, ◌∙◌, subst}
use Rattle.gs_event.specs.declared.verdicts.Change.TheVariants.{Stores}
use Rattle.gs_event.proofs.VerdictLemmas.{store_may}
use Rattle.gs_keys.specs.Roots.{graph_of_root}
use Rattle.gs_tree_store.specs.Books.{books_setting, dataset_of}
use Rattle.gs_tree_store.specs.Verdicts.{verdict_by, DecidesUpload}
use Rattle.gs_tree_store.proofs.VerdictLemmas.{size_of_version}
use Rattle.gs_tree_store.proofs.verdicts.verdict_on_upload.Goals as goal

pub returns : goal.returns
returns c =
    let b = c.args.books.now in
    let t = c.args.target.now in
    let same = c.verdict.ensures ∙ ap (λ n. verdict_by b t (Stores n true)) (size_of_version b.dict.terms b.pool c.args.upload c.requires.version) in
    subst (DecidesUpload b t c.args.upload) (sym same) (store_may (books_setting b) (dataset_of b) b.versions.commit t (graph_of_root b.dict.terms b.pool c.args.upload.root))
