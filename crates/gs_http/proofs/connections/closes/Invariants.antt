use Rattle.std.proofs.Common.{◌≡◌, map, codes, length, List, ℕ}
use Rattle.std.specs.Borrow.{Bor}
use Rattle.std.specs.List.{list_any}
use Rattle.gs_http.specs.Connections.{has_element}
use Rattle.gs_http.proofs.connections.closes.Given as goal

abbrev pub invariant-loop-value : goal.invariant-loop-value
invariant-loop-value l =
    list_any (has_element (codes "close")) (map (λ (v : Bor (List ℕ)). v.now) l.values)
    ≡ list_any (has_element (codes "close")) (map (λ (v : Bor (List ℕ)). v.now) l.initial.values)

abbrev pub decreases-loop-value : goal.decreases-loop-value
decreases-loop-value l = length l.values
