use Rattle.std.proofs.Common.{◌≡◌, ◌-◌, ◌≤◌, length, take, drop}
use Rattle.std.specs.declared.cmp.Ordering.TheVariants.{Less}
use Rattle.gs_tree.specs.Keys.{AllKeys}
use Rattle.gs_tree.proofs.unions.find_below.Given as goal

abbrev pub invariant-halves : goal.invariant-halves
invariant-halves g l = record {
  low : l.from ≤ l.to;
  within : l.to ≤ length l.run;
  below : AllKeys (λ x. g.O.KeyOrder.compare l.order x l.key ≡ Less) (take l.from l.run);
  above : AllKeys (λ x. g.O.KeyOrder.compare l.order l.key x ≡ Less) (drop l.to l.run);
}

abbrev pub decreases-halves : goal.decreases-halves
decreases-halves g l = l.to - l.from
