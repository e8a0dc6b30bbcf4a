use Rattle.std.proofs.Common.{sym, subst}
use Rattle.gs_event.specs.Verdicts.{DecidesRemoval}
use Rattle.gs_event.proofs.VerdictLemmas.{removal_decided}
use Rattle.gs_tree_store.specs.Books.{books_setting, dataset_of}
use Rattle.gs_tree_store.proofs.verdicts.verdict_on_removal.Goals as goal

pub returns : goal.returns
returns c =
    let b = c.args.books.now in
    subst (DecidesRemoval (dataset_of b) b.versions.commit c.args.target.now) (sym c.verdict.ensures) (removal_decided (books_setting b) (dataset_of b) b.versions.commit c.args.target.now)
