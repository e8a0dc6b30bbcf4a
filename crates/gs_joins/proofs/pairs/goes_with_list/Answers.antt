use Rattle.std.proofs.Common.{◌≡◌, [], ◌∷◌, true, length, refl, sym, ◌∙◌, subst, arith}
use Rattle.gs_joins.specs.declared.lots.Lot.{Lot}
use Rattle.gs_joins.specs.Numbers.{numbers_of, Chooses}
use Rattle.gs_joins.specs.Choices.{goes_at}
use Rattle.gs_joins.proofs.LotLemmas.{at_is}
use Rattle.gs_joins.proofs.SearchLemmas.{truncated, goes_chosen}
use Rattle.gs_joins.proofs.pairs.goes_with_list.Goals as goal

pub returns : goal.returns
returns c =
    let ls = c.args.lots.now in
    let is = c.args.other ∷ [] in
    let old = c.args.bound.now.items in
    let mid = c.choose.new.bound.items in
    let l = c.index-lots-at.result in
    let chosen : Chooses old mid l.sought c.args.key true = subst (Chooses old mid l.sought c.args.key) c.if-not-branch.false c.in_ok-choose.ensures in
    let before : c.len-before.result ≡ length old = omega arith in
    record {
      bound = truncated old old mid c.has_one.new.bound.items c.truncate.new.self.items c.len-before.result refl chosen.0 c.in_ok-found.ensures.bound before c.truncate.ensures.items;
      answer = at_is (λ (z : Lot). c.in_ok-found.found ≡ goes_at ls is (numbers_of old) z.sought c.args.key) ls c.args.at l c.requires.at c.index-lots-at.is
          (c.in_ok-found.ensures.answer ∙ sym (goes_chosen ls is l.sought c.args.key old old mid refl chosen));
    }
