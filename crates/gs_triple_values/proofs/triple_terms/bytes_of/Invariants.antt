use Rattle.std.proofs.Common.{◌≡◌, ◌-◌, ◌^◌, min, take}
use Rattle.std.specs.List.{sum_by}
use Rattle.gs_triple_values.specs.Sizes.{term_bytes}
use Rattle.gs_triple_values.proofs.triple_terms.bytes_of.Given as goal

abbrev pub invariant-loop-term : goal.invariant-loop-term
invariant-loop-term l = l.bytes ≡ min (sum_by term_bytes (take l.term-index l.fn.terms)) (2 ^ 64 - 1)
