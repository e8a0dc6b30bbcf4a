-- those that have partners among the keys that were tried
use Rattle.std.proofs.Common.{take, slice_get, MatchOption}
use Rattle.std.specs.List.{All}
use Rattle.gs_joins.specs.declared.lots.Lot.{Lot}
use Rattle.gs_joins.specs.Lots.{IsSmall}
use Rattle.gs_joins.specs.Reductions.{Keeps}
use Rattle.gs_joins.proofs.reduction.partnered.Given as goal

abbrev pub invariant-loop-key : goal.invariant-loop-key
invariant-loop-key l = record {
  small : All IsSmall l.kept.items;
  keeps : MatchOption (slice_get l.lots l.at) (Unit {0}) (λ (lot : Lot). Keeps l.lots lot.sought (take l.key-index l.key-items) l.kept.items);
}
