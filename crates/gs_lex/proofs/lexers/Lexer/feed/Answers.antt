use Rattle.std.proofs.Common.{◌≡◌, rules, refl}
use Rattle.gs_lex.specs.declared.readings.Halt.TheVariants as halt
use Rattle.gs_lex.proofs.FeedLemmas.{feeds-as, breaks-as}
use Rattle.gs_lex.proofs.lexers.Lexer.feed.Goals as goal

pub returns-then-eq-clause-fault : goal.returns-then-eq-clause-fault
returns-then-eq-clause-fault c u x ts h =
    let same : c.in-Ok.halt ≡ halt.Fault = search rules in
    breaks-as u c.args.self.now _ c.take.new.self x c.args.piece.now ts c.args.tokens.now.items c.take.new.tokens.items c.in-Ok.halt h refl c.in_ok-extend_from_slice.ensures.items same c.in-Ok.ensures.ok

pub returns-else-eq-clause-ok : goal.returns-else-eq-clause-ok
returns-else-eq-clause-ok c u x ts h =
    let other : c.in-Ok.halt ≡ halt.Fault → ⊥ = search rules in
    feeds-as u c.args.self.now _ c.take.new.self x c.args.piece.now ts c.args.tokens.now.items c.take.new.tokens.items c.in-Ok.halt h refl c.in_ok-extend_from_slice.ensures.items
    (search rules) other c.in-Ok.ensures.ok
