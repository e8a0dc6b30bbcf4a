-- what is seen and what is left decide together as the whole does
use Rattle.std.proofs.Common.{◌≡◌, false, drop, ◌&&◌}
use Rattle.gs_token_terms.specs.Plain.{are_bare}
use Rattle.gs_token_terms.proofs.plain.are_bare.Given as goal

abbrev pub invariant-loop-b : goal.invariant-loop-b
invariant-loop-b l = (l.are && are_bare l.quote l.last (drop l.b-index l.bytes)) ≡ are_bare l.quote false l.bytes
