use Rattle.std.proofs.Common.{ℕ, sym, subst, arith}
use Rattle.std.specs.Prelude.{Option, IfSome}
use Rattle.gs_ntterm.specs.Wholes.{IsIriFront}
use Rattle.gs_ntterm.specs.declared.names.Name.{Name}
use Rattle.gs_ntread.specs.Runs.{stays}
use Rattle.gs_ntread.specs.Views.{subject_of}
use Rattle.gs_ntread.proofs.WholeRuns.{iri_predicate}
use Rattle.gs_ntread.proofs.cursor.Cursor.whole_predicate.Goals as goal

pub returns-in-None-clause-run : goal.returns-in-None-clause-run
returns-in-None-clause-run c = stays _

pub returns-in-Predicate-clause-run : goal.returns-in-Predicate-clause-run
returns-in-Predicate-clause-run c =
    let x = c.args.piece.now in
    rw (c.requires, sym c.in-Predicate.ensures.value)
    (iri_predicate (subject_of c.in-Predicate.subject) x _ _ (subst (λ (o : Option (Name × ℕ)). IfSome o (λ w. IsIriFront x w.1 w.0.term)) c.in-Some.is c.in_ok-iri_front.ensures))

pub returns-in_default : goal.returns-in_default
returns-in_default c = record { bound = omega arith; run = rw c.replace.ensures.value (stays _) }
