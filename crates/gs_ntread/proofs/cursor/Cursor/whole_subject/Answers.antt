use Rattle.std.proofs.Common.{ℕ, subst}
use Rattle.std.specs.Prelude.{Option, IfSome}
use Rattle.gs_ntterm.specs.Wholes.{IsIriFront}
use Rattle.gs_ntterm.specs.declared.names.Name.{Name}
use Rattle.gs_ntread.specs.Runs.{stays}
use Rattle.gs_ntread.proofs.WholeRuns.{iri_subject}
use Rattle.gs_ntread.proofs.cursor.Cursor.whole_subject.Goals as goal

pub returns-in-None-clause-run : goal.returns-in-None-clause-run
returns-in-None-clause-run c = stays _

pub returns-in-Some-clause-run : goal.returns-in-Some-clause-run
returns-in-Some-clause-run c =
    let x = c.args.piece.now in
    rw (c.requires.between, c.requires.place)
    (iri_subject x _ _ (subst (λ (o : Option (Name × ℕ)). IfSome o (λ w. IsIriFront x w.1 w.0.term)) c.in-Some.is c.in_ok-iri_front.ensures))
