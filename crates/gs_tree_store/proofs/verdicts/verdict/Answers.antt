use Rattle.std.proofs.Common.{ap, ◌∙◌}
use Rattle.gs_event.specs.Verdicts.{verdict_of, holdings_of}
use Rattle.gs_tree_store.specs.Books.{books_setting, dataset_of}
use Rattle.gs_tree_store.proofs.VerdictLemmas.{place_found}
use Rattle.gs_tree_store.proofs.verdicts.verdict.Goals as goal

pub returns : goal.returns
returns c =
    let b = c.args.books.now in
    let place = c.place_of-place.ensures ∙ place_found b c.args.target.now c.args.found c.requires.counts.sound c.requires.found in
    c.verdict_on.ensures
    ∙ ap (λ h. verdict_of h c.place_of-place.result c.args.change) c.holdings-held.ensures
    ∙ ap (λ p. verdict_of (holdings_of (books_setting b) (dataset_of b) b.versions.commit) p c.args.change) place
