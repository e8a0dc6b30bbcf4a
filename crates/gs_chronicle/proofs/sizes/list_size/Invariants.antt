use Rattle.std.proofs.Common.{◌≡◌, ◌≤◌, ◌+◌, ◌-◌, ◌^◌, length}
use Rattle.std.specs.List.{sum_by}
use Rattle.gs_triple_lists.specs.Readers.{listed_left}
use Rattle.gs_chronicle.specs.Sizes.{stopped_count, triple_size, triples_size}
use Rattle.gs_chronicle.proofs.sizes.list_size.Given as goal

abbrev pub invariant-loop-triple : goal.invariant-loop-triple
invariant-loop-triple l = (stopped_count (l.size + sum_by triple_size (listed_left l.left)) ≡ triples_size l.list.items) × (l.size ≤ 2 ^ 64 - 1)

abbrev pub decreases-loop-triple : goal.decreases-loop-triple
decreases-loop-triple l = length (listed_left l.left)
