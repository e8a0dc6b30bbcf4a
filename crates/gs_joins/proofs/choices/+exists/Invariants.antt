-- none of the keys that were tried goes on, what is bound is as it was, and the answers that are kept are right
use Rattle.std.proofs.Common.{◌≡◌, false, length, take}
use Rattle.std.specs.List.{list_any}
use Rattle.gs_joins.specs.Numbers.{numbers_of}
use Rattle.gs_joins.specs.Choices.{goes_at}
use Rattle.gs_joins.specs.Answers.{AreRight}
use Rattle.gs_joins.proofs.choices.+exists.Given as goal

abbrev pub decreases-exists : goal.decreases-exists
decreases-exists l = length l.order.now

abbrev pub invariant-loop-key : goal.invariant-loop-key
invariant-loop-key l = record {
  none : list_any (goes_at l.lots l.rest (numbers_of l.fn.bound.items) l.lot.sought) (take l.key-index l.key-items) ≡ false;
  bound : l.bound.items ≡ l.fn.bound.items;
  answers : AreRight l.lots l.answers;
}
