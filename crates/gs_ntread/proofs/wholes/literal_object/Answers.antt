use Rattle.std.proofs.Common.{ℕ, subst}
use Rattle.std.specs.Prelude.{Option, IfSome}
use Rattle.gs_term.specs.declared.terms.TermText.{TermText}
use Rattle.gs_ntterm.specs.Wholes.{IsLiteralFront}
use Rattle.gs_ntread.proofs.WholeRuns.{literal_object}
use Rattle.gs_ntread.proofs.wholes.literal_object.Goals as goal

pub returns-in-Some : goal.returns-in-Some
returns-in-Some c =
    let x = c.args.piece.now in
    literal_object x _ _ (subst (λ (o : Option (TermText × ℕ)). IfSome o (λ w. IsLiteralFront x w.1 w.0)) c.in-Some.is c.in_ok-literal_front.ensures)
