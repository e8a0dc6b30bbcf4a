use Rattle.std.proofs.Common.{false, sym, ap, ◌∙◌, subst}
use Rattle.gs_event.specs.declared.verdicts.Change.TheVariants.{Stores}
use Rattle.gs_event.specs.Verdicts.{DecidesChange}
use Rattle.gs_event.proofs.VerdictLemmas.{store_must}
use Rattle.gs_plain.specs.Books.{dataset_of, books_setting, verdict_by}
use Rattle.gs_plain.proofs.verdicts.verdict_on_change.Goals as goal

pub returns : goal.returns
returns c =
    let w = books_setting c.args.books.now in
    let m = dataset_of c.args.books.now.rows.items in
    let commit = c.args.books.now.commit in
    let same = c.verdict.ensures ∙ ap (λ n. verdict_by c.args.books.now c.args.target.now (Stores n false)) c.len.ensures in
    subst (DecidesChange w m commit c.args.target.now c.args.graph.now) (sym same) (store_must w m commit c.args.target.now c.args.graph.now)
