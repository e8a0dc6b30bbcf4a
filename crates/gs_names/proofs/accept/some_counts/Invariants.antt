use Rattle.std.proofs.Common.{◌≡◌, map, length, List, ℕ}
use Rattle.std.specs.Borrow.{Bor}
use Rattle.gs_names.specs.Accepts.{some_element, counts}
use Rattle.gs_names.proofs.accept.some_counts.Given as goal

abbrev pub invariant-loop-value : goal.invariant-loop-value
invariant-loop-value l =
    some_element (counts l.range) (map (λ (v : Bor (List ℕ)). v.now) l.values)
    ≡ some_element (counts l.range) (map (λ (v : Bor (List ℕ)). v.now) l.initial.values)

abbrev pub decreases-loop-value : goal.decreases-loop-value
decreases-loop-value l = length l.values
