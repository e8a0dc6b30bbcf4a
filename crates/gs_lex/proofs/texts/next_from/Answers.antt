use Rattle.std.proofs.Common.{◌≡◌, ◌≤◌, ◌-◌, Bool, List, ◌∷◌, ◌++◌, [], sym, ap, subst, arith, length, length-drop, take, drop, ◌∙◌}
use Rattle.std.proofs.lemmas.List.{take_all}
use Rattle.gs_lex.specs.Lexemes.{lexeme_of_borrowed}
use Rattle.gs_lex.specs.Readings.{IsWithin, found_of}
use Rattle.gs_lex.specs.Cutting.{HasCutOff}
use Rattle.gs_lex.specs.Tokens.{Lexeme, lexeme_at}
use Rattle.gs_lex.specs.declared.steps.Reading.{Reading}
use Rattle.gs_lex.proofs.ReadLemmas.{within-passed}
use Rattle.gs_lex.proofs.TextLemmas.{cut-passed, cut-found, cut-fails, cut-ends}
use Rattle.gs_lex.proofs.texts.next_from.Goals as goal

pub steps-preserved : goal.steps-preserved
steps-preserved c =
    let h = c.steps.invariant in
    let x = c.args.text.now in
    let P : Reading → Type 0 = λ r. record {
      within : IsWithin r x;
      onward : c.args.from.cut ≤ r.cut;
      given : (updates : Bool) (ts : List Lexeme) → HasCutOff updates c.args.from x ts → HasCutOff updates r x ts;
    } in
    subst P (sym c.passed-at.ensures) (record {
      within = within-passed c.steps.at x c.in-Passed.count c.in-Passed.in_comment h.within c.in-Passed.ensures.moves.0;
      onward = omega (arith, h.onward);
      given = λ updates ts g.
          let here = h.given updates ts g in
          cut-passed updates c.steps.at x ts c.in-Passed.count c.in-Passed.in_comment here (c.in-Passed.ensures.fits here.read);
    })

pub returns-in-Found-clause-cut : goal.returns-in-Found-clause-cut
returns-in-Found-clause-cut c updates ts g =
    let here = c.steps.invariant.given updates ts g in
    let x = c.args.text.now in
    let r = c.steps.at in
    let k = c.in-Found.kind in
    let count = c.in-Found.count in
    let left = drop r.cut x in
    let whole : take (length x - r.cut) left ≡ left = take_all (length x - r.cut) left (omega (arith, length-drop r.cut x)) in
    let is : lexeme_of_borrowed c.borrowed_at-token.result ≡ lexeme_at k r.place (take count left) =
    c.borrowed_at-token.ensures ∙ ap (λ z. lexeme_at k r.place (take count z)) whole in
    subst (λ (q : Reading). HasCutOff updates q x (ts ++ lexeme_of_borrowed c.borrowed_at-token.result ∷ [])) (sym c.found.ensures)
    (subst (λ (t : Lexeme). HasCutOff updates (found_of r count c.in-Found.barren) x (ts ++ t ∷ [])) (sym is)
    (cut-found updates r x ts k count c.in-Found.barren here (c.in-Found.ensures.fits here.read)))

pub returns-in-Fault-clause-cut : goal.returns-in-Fault-clause-cut
returns-in-Fault-clause-cut c updates ts g =
    let here = c.steps.invariant.given updates ts g in
    (here, cut-fails updates c.steps.at c.args.text.now ts here (c.in-Fault.ensures.fits here.read))

pub returns-in-End-clause-cut : goal.returns-in-End-clause-cut
returns-in-End-clause-cut c updates ts g =
    let here = c.steps.invariant.given updates ts g in
    (here, cut-ends updates c.steps.at c.args.text.now ts _ here (c.in-End.ensures.fits here.read).1)

pub returns-in-Wait-clause-cut : goal.returns-in-Wait-clause-cut
returns-in-Wait-clause-cut c updates ts g =
    let here = c.steps.invariant.given updates ts g in
    absurd (Prim.cc ((c.in-Wait.ensures.fits here.read).0))
