use Rattle.std.proofs.Common.{List, ℕ, subst}
use Rattle.std.proofs.lemmas.List.{take_rest}
use Rattle.gs_ntread.specs.Wholes.{IsDotAfter}
use Rattle.gs_ntread.specs.LineFronts.{ObjectToken}
use Rattle.gs_ntread.proofs.WholeRuns.{object_dot}
use Rattle.gs_ntread.proofs.lines.object_front.Goals as goal

pub returns : goal.returns
returns c =
    let x = c.args.piece.now in
    let k = c.in_ok-blanks.blanks in
    let f : ObjectToken x c.in_ok-object.object c.in_ok-object.n = c.in_ok-object.ensures in
    record { is = f.is; front = object_dot x _ k _ f.token (subst (λ (z : List ℕ). IsDotAfter z k) (take_rest x c.in_ok-object.n) c.in_ok-blanks.ensures) }
