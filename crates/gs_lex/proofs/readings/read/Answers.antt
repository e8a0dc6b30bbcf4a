use Rattle.std.proofs.Common.{sym, subst, drop}
use Rattle.gs_lex.specs.Readings.{Went, GrowsByTokens, HasRead, IsWithin}
use Rattle.gs_lex.specs.declared.steps.Reading.{Reading}
use Rattle.gs_lex.proofs.ReadLemmas.{went-nothing, grows-nothing, went-found, went-passed, within-passed, within-found, grows-more}
use Rattle.gs_lex.proofs.readings.read.Goals as goal

pub steps-init : goal.steps-init
steps-init c = record {
  within = c.requires;
  went = went-nothing c.args.is_end c.args.text.now c.args.from c.args.tokens.now.items;
  kept = grows-nothing c.args.tokens.now.items;
}

pub steps-preserved : goal.steps-preserved
steps-preserved c =
    let h = c.steps.invariant in
    let x = c.args.text.now in
    let m = c.in-Found.ensures.moves in
    let P : Reading → Type 0 = λ r. record {
      within : IsWithin r x;
      went : HasRead c.args.is_end c.args.from (drop c.args.from.cut x) → Went c.args.is_end x c.args.from r c.args.tokens.now.items c.add_token.new.tokens.items;
      kept : GrowsByTokens c.args.tokens.now.items c.add_token.new.tokens.items;
    } in
    subst P (sym c.found-at.ensures) (record {
      within = within-found c.steps.at x c.in-Found.count c.in-Found.barren h.within m.0;
      went = λ g. let w = h.went g in
          went-found c.args.is_end x c.args.from c.steps.at c.args.tokens.now.items c.steps.tokens.items c.add_token.new.tokens.items c.in-Found.kind c.in-Found.count c.in-Found.barren h.within.cut w
          (c.in-Found.ensures.fits w.read) c.in_ok-add_token-in-Found.ensures.ok;
      kept = grows-more c.args.tokens.now.items c.steps.tokens.items c.add_token.new.tokens.items h.kept c.add_token.ensures.kept;
    })

pub steps-preserved-in-Passed : goal.steps-preserved-in-Passed
steps-preserved-in-Passed c =
    let h = c.steps.invariant in
    let x = c.args.text.now in
    let m = c.in-Passed.ensures.moves in
    let P : Reading → Type 0 = λ r. record {
      within : IsWithin r x;
      went : HasRead c.args.is_end c.args.from (drop c.args.from.cut x) → Went c.args.is_end x c.args.from r c.args.tokens.now.items c.steps.tokens.items;
      kept : GrowsByTokens c.args.tokens.now.items c.steps.tokens.items;
    } in
    subst P (sym c.passed-at.ensures) (record {
      within = within-passed c.steps.at x c.in-Passed.count c.in-Passed.in_comment h.within m.0;
      went = λ g. let w = h.went g in
          went-passed c.args.is_end x c.args.from c.steps.at c.args.tokens.now.items c.steps.tokens.items c.in-Passed.count c.in-Passed.in_comment h.within.cut w (c.in-Passed.ensures.fits w.read);
      kept = h.kept;
    })
