use Rattle.std.proofs.Common.{List, ℕ, subst}
use Rattle.std.specs.Prelude.{Option, IfSome}
use Rattle.std.proofs.lemmas.List.{take_rest}
use Rattle.gs_ntread.specs.Views.{object_of}
use Rattle.gs_ntread.specs.Wholes.{IsDotAfter, IsObjectToken}
use Rattle.gs_ntread.specs.declared.parts.Object.{Object}
use Rattle.gs_ntread.proofs.WholeRuns.{object_dot}
use Rattle.gs_ntread.proofs.wholes.object_front.Goals as goal

pub returns-in-Some-blanks_to_dot : goal.returns-in-Some-blanks_to_dot
returns-in-Some-blanks_to_dot c =
    let x = c.args.piece.now in
    let k = c.in-Some-blanks_to_dot.blanks in
    object_dot x c.in-Some.n k (object_of c.in-Some.object)
    (subst (λ (o : Option (Object × ℕ)). IfSome o (λ w. IsObjectToken x w.1 (object_of w.0))) c.in-Some.is c.in_ok-object_token.ensures)
    (subst (λ (z : List ℕ). IsDotAfter z k) (take_rest x c.in-Some.n) c.in-Some-blanks_to_dot.ensures)
