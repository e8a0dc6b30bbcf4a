use Rattle.std.proofs.Common.{ap, ◌∙◌}
use Rattle.gs_event.specs.Verdicts.{verdict_of}
use Rattle.gs_plain.specs.Books.{held_by}
use Rattle.gs_plain.proofs.verdicts.verdict.Goals as goal

pub returns : goal.returns
returns c =
    c.verdict_on.ensures
    ∙ ap (λ h. verdict_of h c.place-place.result c.args.change) c.holdings-held.ensures
    ∙ ap (λ p. verdict_of (held_by c.args.books.now) p c.args.change) c.place-place.ensures
