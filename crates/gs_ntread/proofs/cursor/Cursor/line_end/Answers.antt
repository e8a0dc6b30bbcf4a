use Rattle.std.proofs.Common.{◌≡◌, ℕ, List, [], ◌∷◌, take, sym, ap, subst, ◌∙◌, arith}
use Rattle.std.proofs.lemmas.List.{take_more}
use Rattle.gs_ntread.specs.Runs.{RunsTo, stays}
use Rattle.gs_ntread.specs.States.{AtSubject, AtEnd, Between}
use Rattle.gs_ntread.proofs.WholeRuns.{line_ends}
use Rattle.gs_ntread.proofs.cursor.Cursor.line_end.Goals as goal

pub returns-then-piece-eq0-clause-run : goal.returns-then-piece-eq0-clause-run
returns-then-piece-eq0-clause-run c = stays _

pub returns-clause-run : goal.returns-clause-run
returns-clause-run c =
    let x = c.args.piece.now in
    let e : take 1 x ≡ 10 ∷ [] = take_more x 0 0 (omega (arith, c.if-piece-eq0.false)) ∙ ap (λ (b : ℕ). b ∷ []) c.if-piece-ne10.false in
    rw (c.requires.between, c.requires.place) (subst (λ (bs : List ℕ). RunsTo (AtEnd, Between) bs (AtSubject, Between)) (sym e) line_ends)
