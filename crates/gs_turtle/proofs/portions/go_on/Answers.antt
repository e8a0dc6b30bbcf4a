use Rattle.std.proofs.Common.{sym, subst}
use Rattle.gs_model.specs.declared.refusals.Refusal.{Refusal}
use Rattle.gs_turtle.specs.Portions.{end_of, ReportsAfter}
use Rattle.gs_turtle.proofs.PortionLemmas.{lost-reports}
use Rattle.gs_turtle.proofs.portions.go_on.Goals as goal

pub returns-in-Some : goal.returns-in-Some
returns-in-Some c = λ us.
    let p = c.args.parser.now in
    subst (λ (r : Refusal). ReportsAfter p.last r (end_of p us)) (sym c.refusal.ensures) (lost-reports p us c.in-Some.fault c.in-Some.ensures.some)
