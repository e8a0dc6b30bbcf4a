use Rattle.std.proofs.Common.{sym, ap, ◌∙◌}
use Rattle.std.proofs.lemmas.Cmp.{tied_itself, nat_list_cmp_total}
use Rattle.gs_keys.specs.Texts.{text_at, number_cmp}
use Rattle.gs_keys.proofs.texts.compare_numbers.Goals as goal

pub returns-then-a-b : goal.returns-then-a-b
returns-then-a-b c =
    let terms = c.args.dict.now.terms in
    sym (ap (number_cmp terms c.args.a) (sym c.if-a-b.true) ∙ tied_itself nat_list_cmp_total (text_at terms c.args.a))
