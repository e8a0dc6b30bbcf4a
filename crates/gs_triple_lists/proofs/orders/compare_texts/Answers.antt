use Rattle.std.proofs.Common.{sym, ap, ◌∙◌}
use Rattle.std.proofs.lemmas.Cmp.{tied_itself}
use Rattle.gs_triple_lists.specs.Orders.{text_cmp}
use Rattle.gs_triple_lists.proofs.RankLemmas.{text_total}
use Rattle.gs_triple_lists.proofs.orders.compare_texts.Goals as goal

pub returns-then-a-b : goal.returns-then-a-b
returns-then-a-b c =
    let terms = c.args.terms.now in
    sym (ap (text_cmp terms c.args.a) (sym c.if-a-b.true) ∙ tied_itself (text_total terms) c.args.a)
