use Rattle.std.proofs.Common.{true, sym, ap, ◌∙◌, subst}
use Rattle.gs_event.specs.declared.verdicts.Change.TheVariants.{Stores}
use Rattle.gs_event.specs.Verdicts.{DecidesStore}
use Rattle.gs_event.proofs.VerdictLemmas.{store_may}
use Rattle.gs_plain.specs.Books.{dataset_of, books_setting, verdict_by}
use Rattle.gs_plain.proofs.verdicts.verdict_on_store.Goals as goal

pub returns : goal.returns
returns c =
    let w = books_setting c.args.books.now in
    let m = dataset_of c.args.books.now.rows.items in
    let commit = c.args.books.now.commit in
    let same = c.verdict.ensures ∙ ap (λ n. verdict_by c.args.books.now c.args.target.now (Stores n true)) c.len.ensures in
    subst (DecidesStore w m commit c.args.target.now c.args.graph.now) (sym same) (store_may w m commit c.args.target.now c.args.graph.now)
