-- it has the same patterns
use Rattle.std.specs.List.Sorted.{IsPermutation}
use Rattle.gs_match.proofs.arrangement.known_first.Given as goal

abbrev pub invariant-loop-i : goal.invariant-loop-i
invariant-loop-i l = IsPermutation l.patterns l.new.items
