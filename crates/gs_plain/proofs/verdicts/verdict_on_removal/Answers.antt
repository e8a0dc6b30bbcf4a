use Rattle.std.proofs.Common.{sym, subst}
use Rattle.gs_event.specs.Verdicts.{DecidesRemoval}
use Rattle.gs_event.proofs.VerdictLemmas.{removal_decided}
use Rattle.gs_plain.specs.Books.{dataset_of, books_setting}
use Rattle.gs_plain.proofs.verdicts.verdict_on_removal.Goals as goal

pub returns : goal.returns
returns c =
    let m = dataset_of c.args.books.now.rows.items in
    let commit = c.args.books.now.commit in
    subst (DecidesRemoval m commit c.args.target.now) (sym c.verdict.ensures) (removal_decided (books_setting c.args.books.now) m commit c.args.target.now)
