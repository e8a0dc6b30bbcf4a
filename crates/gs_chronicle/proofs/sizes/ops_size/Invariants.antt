use Rattle.std.proofs.Common.{◌≡◌, take, length}
use Rattle.std.specs.List.{sum_by}
use Rattle.gs_chronicle.specs.Sizes.{stopped_count, triple_times, op_size}
use Rattle.gs_chronicle.proofs.sizes.ops_size.Given as goal

abbrev pub invariant-loop-op : goal.invariant-loop-op
invariant-loop-op l = l.size ≡ stopped_count (sum_by (op_size (triple_times (length l.ops))) (take l.op-index l.ops))
