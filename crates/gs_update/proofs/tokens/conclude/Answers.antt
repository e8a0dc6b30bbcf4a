use Rattle.std.proofs.Common.{[], sym, ap, subst, ◌∙◌}
use Rattle.std.specs.Prelude.{option_map}
use Rattle.gs_model.specs.declared.refusals.Refusal.{Refusal}
use Rattle.gs_update_places.specs.Views.{rejection_at}
use Rattle.gs_update.specs.Tokens.{request_end, ReportsAfterOperation}
use Rattle.gs_update.proofs.TokenLemmas.{takes_none, concludes, ends_rejected}
use Rattle.gs_update.proofs.tokens.conclude.Goals as goal

pub returns-in-None-clause-ok : goal.returns-in-None-clause-ok
returns-in-None-clause-ok c =
    let e = c.in_ok-end.ensures in
    let a = c.args.parser.now in
    concludes a a c.end.new.self [] (takes_none a c.requires) (ap (option_map rejection_at) (sym c.in-None.is) ∙ e.said) e.operations e.last

pub returns-in-Some-clause-fault : goal.returns-in-Some-clause-fault
returns-in-Some-clause-fault c =
    let e = c.in_ok-end.ensures in
    let a = c.args.parser.now in
    subst (λ (r : Refusal). ReportsAfterOperation a.last r (request_end a [])) (sym c.refusal.ensures)
    (ends_rejected a a c.end.new.self.last [] (rejection_at c.in-Some.rejection) (takes_none a c.requires) (ap (option_map rejection_at) (sym c.in-Some.is) ∙ e.said) e.last)
