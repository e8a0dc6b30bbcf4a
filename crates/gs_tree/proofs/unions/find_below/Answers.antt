use Rattle.std.proofs.Common.{◌≡◌, ◌≢◌, ℕ, ◌+◌, ◌-◌, ◌/◌, ◌*◌, ◌<◌, ◌≤◌, length, take, drop, get_or, refl, sym, subst, ◌∙◌, inl, inr, arith}
use Rattle.gs_tree.proofs.Merging.{no_key, place_below, place_above, place_here}
use Rattle.gs_tree.specs.Keys.{AllKeys}
use Rattle.gs_tree.proofs.unions.find_below.Goals as goal

pub halves-preserved-in-Less : goal.halves-preserved-in-Less
halves-preserved-in-Less g c = record {
  low = omega (arith, c.halves-test.true);
  within = c.halves.invariant.within;
  below = place_below (g.O.KeyOrder.compare c.args.order.now) (g.met.O.KeyOrder.total c.args.order.now) c.args.run.now c.requires.rising (c.halves.from + (c.halves.to - c.halves.from) / 2) (omega (arith, c.halves.invariant.within, c.halves-test.true)) _ no_key refl c.args.key (sym c.compare.ensures ∙ c.in-Less.is);
  above = c.halves.invariant.above;
}

pub returns-in-Equal : goal.returns-in-Equal
returns-in-Equal g c = place_here (g.O.KeyOrder.compare c.args.order.now) (g.met.O.KeyOrder.total c.args.order.now) c.args.run.now c.requires.rising (c.halves.from + (c.halves.to - c.halves.from) / 2) (omega (arith, c.halves.invariant.within, c.halves-test.true)) _ no_key refl c.args.key (sym c.compare.ensures ∙ c.in-Equal.is)

pub halves-preserved : goal.halves-preserved
halves-preserved g c = record {
  low = omega arith;
  within = omega (arith, c.halves.invariant.within, c.halves-test.true);
  below = c.halves.invariant.below;
  above = place_above (g.O.KeyOrder.compare c.args.order.now) (g.met.O.KeyOrder.total c.args.order.now) c.args.run.now c.requires.rising (c.halves.from + (c.halves.to - c.halves.from) / 2) (omega (arith, c.halves.invariant.within, c.halves-test.true)) _ no_key refl c.args.key (sym c.compare.ensures ∙ c.in-Greater.is);
}

pub returns : goal.returns
returns g c =
    let same : c.halves.to ≡ c.halves.from = omega (arith, c.halves.invariant.low, c.halves-test.false) in
    record {
      low = omega arith;
      within = omega (arith, c.halves.invariant.low, c.halves.invariant.within);
      below = c.halves.invariant.below;
      above = subst (λ n. AllKeys (λ x. g.O.KeyOrder.compare c.args.order.now c.args.key x ≡ Rattle.std.proofs.Common.Less) (drop n c.args.run.now)) same c.halves.invariant.above;
      here = inl refl;
    }
