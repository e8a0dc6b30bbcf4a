use Rattle.std.proofs.Common.{◌≡◌, take}
use Rattle.std.specs.List.{sum_by}
use Rattle.gs_chronicle.specs.Sizes.{stopped_count, pattern_size}
use Rattle.gs_chronicle.proofs.sizes.patterns_size.Given as goal

abbrev pub invariant-loop-pattern : goal.invariant-loop-pattern
invariant-loop-pattern l = l.size ≡ stopped_count (sum_by pattern_size (take l.pattern-index l.patterns))
