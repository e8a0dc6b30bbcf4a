-- none of the keys that were gone through goes on, what is bound is as it was, and the keys of the other side that were passed have less
use Rattle.std.proofs.Common.{◌≡◌, ◌≤◌, length, take}
use Rattle.gs_joins.specs.Numbers.{numbers_of}
use Rattle.gs_joins.specs.Sides.{NoneGoes}
use Rattle.gs_joins.proofs.MergeLemmas.{AreLess}
use Rattle.gs_joins.proofs.pairs.has_merged.Given as goal

abbrev pub invariant-loop-key : goal.invariant-loop-key
invariant-loop-key l = record {
  none : NoneGoes l.lots l.one.at l.other.at (numbers_of l.fn.bound.items) (take l.key-index l.one.near.now);
  bound : l.bound.items ≡ l.fn.bound.items;
  within : l.next ≤ length l.other.near.now;
  less : AreLess l.joint l.one.near.now l.other.near.now l.key-index l.next;
}
