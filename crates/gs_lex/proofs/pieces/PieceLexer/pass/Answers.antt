use Rattle.std.proofs.Common.{◌+◌, ℕ, ◌∷◌, ◌++◌, [], sym, subst, take, drop}
use Rattle.gs_lex.specs.Plains.{plain_of}
use Rattle.gs_lex.specs.Standing.{StandsAfter}
use Rattle.gs_lex.specs.Tokens.{lexeme_at}
use Rattle.gs_lex.specs.declared.steps.Reading.{Reading}
use Rattle.gs_lex.proofs.PlainLemmas.{stands-plain}
use Rattle.gs_lex.proofs.pieces.PieceLexer.pass.Goals as goal

pub returns-clause-next : goal.returns-clause-next
returns-clause-next c is_end u x ts h =
    let r = c.args.self.now.at in
    let held = c.args.self.now.held.items in
    let p = c.args.plain in
    let q : Reading = plain_of r p.space p.count in
    let left = drop (r.cut + p.space + p.count) held in
    let bytes = take p.count (drop (r.cut + p.space) held) in
    let at = c.places-start.ensures in
    subst (λ (z : ℕ). StandsAfter is_end u (record q { place = z; last = z }) left x (ts ++ lexeme_at p.kind c.places-start.result.0 bytes ∷ [])) (sym at.end)
    (subst (λ (z : ℕ). StandsAfter is_end u q left x (ts ++ lexeme_at p.kind z bytes ∷ [])) (sym at.start)
    (stands-plain is_end u r held x ts p c.requires.between c.requires.unread at.fits c.requires.ahead h))
