use Rattle.std.proofs.Common.{◌≡◌, map, codes, length, List, ℕ}
use Rattle.std.specs.Borrow.{Bor}
use Rattle.std.specs.List.{list_any}
use Rattle.std.specs.Str.{str_eq_ignore_ascii_case}
use Rattle.gs_http.proofs.connections.expects_continue.Given as goal

abbrev pub invariant-loop-value : goal.invariant-loop-value
invariant-loop-value l =
    list_any (λ v. str_eq_ignore_ascii_case v (codes "100-continue")) (map (λ (v : Bor (List ℕ)). v.now) l.values)
    ≡ list_any (λ v. str_eq_ignore_ascii_case v (codes "100-continue")) (map (λ (v : Bor (List ℕ)). v.now) l.initial.values)

abbrev pub decreases-loop-value : goal.decreases-loop-value
decreases-loop-value l = length l.values
