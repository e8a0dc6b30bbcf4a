use Rattle.std.proofs.Common.{◌≡◌, ℕ, List, [], ◌∷◌, take, sym, ap, subst, ◌∙◌, arith}
use Rattle.std.proofs.lemmas.List.{take_more}
use Rattle.gs_ntread.specs.Runs.{RunsTo, stays}
use Rattle.gs_ntread.specs.States.{AtSubject, AtEnd, Between}
use Rattle.gs_ntread.proofs.WholeRuns.{line_ends}
use Rattle.gs_ntread.proofs.lines.feed_len.Goals as goal

pub returns-then-rest-eq10-clause-feed : goal.returns-then-rest-eq10-clause-feed
returns-then-rest-eq10-clause-feed c =
    let x = c.args.rest.now in
    let e : take 1 x ≡ 10 ∷ [] = take_more x 0 0 (omega (arith, c.if-rest-gt0.true)) ∙ ap (λ (b : ℕ). b ∷ []) c.if-rest-eq10.true in
    subst (λ (bs : List ℕ). RunsTo (AtEnd, Between) bs (AtSubject, Between)) (sym e) line_ends

pub returns-else-rest-gt0-clause-feed : goal.returns-else-rest-gt0-clause-feed
returns-else-rest-gt0-clause-feed c = stays _
