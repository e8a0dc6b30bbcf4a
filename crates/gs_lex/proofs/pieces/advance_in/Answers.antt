use Rattle.std.proofs.Common.{◌≤◌, Bool, ℕ, List, ◌∷◌, ◌++◌, [], sym, subst, arith, take, drop}
use Rattle.gs_lex.specs.Readings.{IsWithin}
use Rattle.gs_lex.specs.Standing.{StandsAfter}
use Rattle.gs_lex.specs.Tokens.{Lexeme, lexeme_at}
use Rattle.gs_lex.specs.declared.steps.Reading.{Reading}
use Rattle.gs_lex.proofs.ReadLemmas.{within-passed}
use Rattle.gs_lex.proofs.StandingLemmas.{stands-passed, stands-found, stands-scanned, stands-waits, stands-fails, stands-ends}
use Rattle.gs_lex.proofs.pieces.advance_in.Goals as goal

pub steps-preserved : goal.steps-preserved
steps-preserved c =
    let h = c.steps.invariant in
    let x = c.args.text.now in
    let P : Reading → Type 0 = λ r. record {
      within : IsWithin r x;
      onward : c.args.from.cut ≤ r.cut;
      stands : (updates : Bool) (y : List ℕ) (ts : List Lexeme) → StandsAfter c.args.is_end updates c.args.from (drop c.args.from.cut x) y ts → StandsAfter c.args.is_end updates r (drop r.cut x) y ts;
    } in
    subst P (sym c.passed-at.ensures) (record {
      within = within-passed c.steps.at x c.in-Passed.count c.in-Passed.in_comment h.within c.in-Passed.ensures.moves.0;
      onward = omega (arith, h.onward);
      stands = λ u y ts g.
          let here = h.stands u y ts g in
          stands-passed c.args.is_end u c.steps.at x y ts c.in-Passed.count c.in-Passed.in_comment here (c.in-Passed.ensures.fits here.read);
    })

pub returns-in-Found-clause-cut : goal.returns-in-Found-clause-cut
returns-in-Found-clause-cut c u y ts g =
    let here = c.steps.invariant.stands u y ts g in
    let x = c.args.text.now in
    let r = c.steps.at in
    let t = lexeme_at c.in-Found.kind r.place (take c.in-Found.count (drop r.cut x)) in
    subst (λ (q : Reading). StandsAfter c.args.is_end u q (drop q.cut x) y (ts ++ t ∷ [])) (sym c.found.ensures)
    (stands-found c.args.is_end u r x y ts c.in-Found.kind c.in-Found.count c.in-Found.barren here (c.in-Found.ensures.fits here.read))

pub returns-in-Fault-clause-cut : goal.returns-in-Fault-clause-cut
returns-in-Fault-clause-cut c u y ts g =
    let here = c.steps.invariant.stands u y ts g in
    stands-fails c.args.is_end u c.steps.at (drop c.steps.at.cut c.args.text.now) y ts here (c.in-Fault.ensures.fits here.read)

pub returns-in-End-clause-cut : goal.returns-in-End-clause-cut
returns-in-End-clause-cut c u y ts g =
    let here = c.steps.invariant.stands u y ts g in
    let e = c.in-End.ensures.fits here.read in
    (e.0, stands-ends c.args.is_end u c.steps.at (drop c.steps.at.cut c.args.text.now) y ts here e.1)

pub returns-in-Wait-clause-cut : goal.returns-in-Wait-clause-cut
returns-in-Wait-clause-cut c u y ts g =
    let here = c.steps.invariant.stands u y ts g in
    let left = drop c.steps.at.cut c.args.text.now in
    let e = c.in-Wait.ensures.fits here.read in
    let r : Reading = record c.steps.at { scan = c.in-Wait.scan } in
    let stays : StandsAfter c.args.is_end u r left y ts = stands-scanned c.args.is_end u c.steps.at left y ts c.in-Wait.scan here e.1.0 in
    (e.0, (stays, stands-waits c.args.is_end u r left y ts e.0 stays e.1.1))
