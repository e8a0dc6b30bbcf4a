use Rattle.std.proofs.Common.{◌∙◌, ap, sym}
use Rattle.std.specs.Prelude.{take, map}
use Rattle.std.proofs.lemmas.List.{take-map}
use Rattle.gs_triple_lists.specs.Lists.{listed}
use Rattle.gs_triple_lists.specs.Kept.{triple_of_numbers}
use Rattle.gs_triple_lists.proofs.lists.TripleList.truncate.Goals as goal

pub returns : goal.returns
returns c =
    ap listed (
    ap (map (triple_of_numbers c.self.inside.table.terms.items)) c.truncate.ensures.items
    ∙ (sym (take-map (triple_of_numbers c.self.inside.table.terms.items) c.args.count c.self.inside.numbers.items)
    ∙ ap (λ l. take c.args.count l.items) c.self.view_is))
