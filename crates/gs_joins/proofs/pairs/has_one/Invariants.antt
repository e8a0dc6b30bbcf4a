-- none of the keys that were tried is an instance, and what is bound is as it was
use Rattle.std.proofs.Common.{◌≡◌, [], false, take}
use Rattle.std.specs.List.{list_any}
use Rattle.gs_joins.specs.Numbers.{numbers_of}
use Rattle.gs_joins.specs.Choices.{goes_at}
use Rattle.gs_joins.proofs.pairs.has_one.Given as goal

abbrev pub invariant-loop-key : goal.invariant-loop-key
invariant-loop-key l = record {
  none : list_any (goes_at l.lots [] (numbers_of l.fn.bound.items) l.lot.sought) (take l.key-index l.key-items) ≡ false;
  bound : l.bound.items ≡ l.fn.bound.items;
}
