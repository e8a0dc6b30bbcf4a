use Rattle.std.proofs.Common.{ℕ, List, subst}
use Rattle.gs_lex.specs.Standing.{CutsAhead}
use Rattle.gs_lex.proofs.pieces.PieceLexer.advance_far.Goals as goal

pub returns-clause-next : goal.returns-clause-next
returns-clause-next c =
    let r = c.advance_in-next.result in
    subst (λ (z : List ℕ). CutsAhead c.args.is_end z c.args.self.now.at r.0 r.1 r.2) c.deref.ensures.value c.advance_in-next.ensures.cut
