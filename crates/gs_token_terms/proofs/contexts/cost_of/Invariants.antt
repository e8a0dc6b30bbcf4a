-- what was counted so far
use Rattle.std.proofs.Common.{◌≡◌, ◌-◌, ◌^◌, min, take}
use Rattle.std.specs.List.{sum_by}
use Rattle.gs_token_terms.specs.Contexts.{byte_cost}
use Rattle.gs_token_terms.proofs.contexts.cost_of.Given as goal

abbrev pub invariant-loop-byte : goal.invariant-loop-byte
invariant-loop-byte l = l.cost ≡ min (sum_by byte_cost (take l.byte-index l.base)) (2 ^ 64 - 1)
