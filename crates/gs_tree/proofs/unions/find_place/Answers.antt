use Rattle.std.proofs.Common.{◌≡◌, ◌+◌, ◌-◌, length, refl, sym, subst, ◌∙◌, arith}
use Rattle.gs_tree.proofs.Merging.{no_key, place_above, place_here, place_first, place_last}
use Rattle.gs_tree.specs.Keys.{Places}
use Rattle.gs_tree.proofs.unions.find_place.Goals as goal

pub returns-in-Less : goal.returns-in-Less
returns-in-Less g c =
    let last : length c.args.run.now - 1 + 1 ≡ length c.args.run.now = omega (arith, c.requires.some) in
    subst (λ n. Places (g.O.KeyOrder.compare c.args.order.now) c.args.key c.args.run.now n n) (sym last) (place_last (g.O.KeyOrder.compare c.args.order.now) (g.met.O.KeyOrder.total c.args.order.now) c.args.run.now c.requires.rising (length c.args.run.now - 1) (omega (arith, c.requires.some)) _ no_key refl c.args.key (sym c.compare.ensures ∙ c.in-Less.is) last)

pub returns-in-Equal : goal.returns-in-Equal
returns-in-Equal g c = place_here (g.O.KeyOrder.compare c.args.order.now) (g.met.O.KeyOrder.total c.args.order.now) c.args.run.now c.requires.rising (length c.args.run.now - 1) (omega (arith, c.requires.some)) _ no_key refl c.args.key (sym c.compare.ensures ∙ c.in-Equal.is)

pub returns-then-last-eq0 : goal.returns-then-last-eq0
returns-then-last-eq0 g c = place_first (g.O.KeyOrder.compare c.args.order.now) (g.met.O.KeyOrder.total c.args.order.now) c.args.run.now c.requires.rising (length c.args.run.now - 1) (omega (arith, c.requires.some)) _ no_key refl c.args.key (sym c.compare.ensures ∙ c.in-Greater.is) c.if-last-eq0.true

pub returns-in-Greater-compare : goal.returns-in-Greater-compare
returns-in-Greater-compare g c = place_first (g.O.KeyOrder.compare c.args.order.now) (g.met.O.KeyOrder.total c.args.order.now) c.args.run.now c.requires.rising (0) (c.requires.some) _ no_key refl c.args.key (sym c.compare-2.ensures ∙ c.in-Greater-compare.is) refl

pub returns-in-Equal-compare : goal.returns-in-Equal-compare
returns-in-Equal-compare g c = place_here (g.O.KeyOrder.compare c.args.order.now) (g.met.O.KeyOrder.total c.args.order.now) c.args.run.now c.requires.rising (0) (c.requires.some) _ no_key refl c.args.key (sym c.compare-2.ensures ∙ c.in-Equal-compare.is)

pub find_below-requires-clause-above : goal.find_below-requires-clause-above
find_below-requires-clause-above g c = place_above (g.O.KeyOrder.compare c.args.order.now) (g.met.O.KeyOrder.total c.args.order.now) c.args.run.now c.requires.rising (length c.args.run.now - 1) (omega (arith, c.requires.some)) _ no_key refl c.args.key (sym c.compare.ensures ∙ c.in-Greater.is)
