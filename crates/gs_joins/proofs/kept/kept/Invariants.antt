-- those that go on among the keys that were tried, and the answers that are kept are right
use Rattle.std.proofs.Common.{◌≡◌, [], take, slice_get, MatchOption}
use Rattle.std.specs.List.{filter}
use Rattle.gs_joins.specs.declared.lots.Lot.{Lot}
use Rattle.gs_joins.specs.Choices.{goes_at}
use Rattle.gs_joins.specs.Answers.{AreRight}
use Rattle.gs_joins.proofs.kept.kept.Given as goal

abbrev pub invariant-loop-key : goal.invariant-loop-key
invariant-loop-key l = record {
  kept : MatchOption (slice_get l.lots l.at) (Unit {0}) (λ (lot : Lot). l.kept.items ≡ filter (goes_at l.lots l.others [] lot.sought) (take l.key-index l.key-items));
  answers : AreRight l.lots l.answers;
}
