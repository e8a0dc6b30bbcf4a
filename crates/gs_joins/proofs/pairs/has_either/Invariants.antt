-- none of the keys that were tried goes on, and what is bound is as it was
use Rattle.std.proofs.Common.{◌≡◌, take}
use Rattle.gs_joins.specs.Numbers.{numbers_of}
use Rattle.gs_joins.specs.Sides.{NoneGoes}
use Rattle.gs_joins.proofs.pairs.has_either.Given as goal

abbrev pub invariant-loop-key : goal.invariant-loop-key
invariant-loop-key l = record {
  none : NoneGoes l.lots l.one.at l.other (numbers_of l.fn.bound.items) (take l.key-index l.one.near.now);
  bound : l.bound.items ≡ l.fn.bound.items;
}
