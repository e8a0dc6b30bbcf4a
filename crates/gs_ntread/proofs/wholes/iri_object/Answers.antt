use Rattle.std.proofs.Common.{ℕ, subst}
use Rattle.std.specs.Prelude.{Option, IfSome}
use Rattle.gs_ntterm.specs.Wholes.{IsIriFront}
use Rattle.gs_ntterm.specs.declared.names.Name.{Name}
use Rattle.gs_ntread.proofs.WholeRuns.{iri_object}
use Rattle.gs_ntread.proofs.wholes.iri_object.Goals as goal

pub returns-in-Some : goal.returns-in-Some
returns-in-Some c =
    let x = c.args.piece.now in
    iri_object x _ _ (subst (λ (o : Option (Name × ℕ)). IfSome o (λ w. IsIriFront x w.1 w.0.term)) c.in-Some.is c.in_ok-iri_front.ensures)
